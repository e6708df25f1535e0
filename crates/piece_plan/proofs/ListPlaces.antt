-- Where an element of a list stands that is put together of lists.
use Rattle.std.specs.Prelude.{flat_map, slice_get}
use Rattle.std.specs.List.{range_with_len, enumerate_from}
use Rattle.std.proofs.Common.{◌≡◌, ◌∙◌, sym, ap, ℕ, zero, suc, ◌+◌, ◌*◌, ◌<◌, List, [], ◌∷◌, ◌++◌, length, take, Some, arith}
use Rattle.std.proofs.lemmas.List.{length-append}

pub slice_get-left : {A : Type 0} (xs ys : List A) (i : ℕ) (x : A) → slice_get xs i ≡ Some x → slice_get (xs ++ ys) i ≡ Some x
slice_get-left [] ys i x at = absurd (cc)
slice_get-left (y ∷ xs) ys zero x at = at
slice_get-left (y ∷ xs) ys (suc i) x at = slice_get-left xs ys i x at

pub slice_get-right : {A : Type 0} (xs ys : List A) (n : ℕ) → slice_get (xs ++ ys) (length xs + n) ≡ slice_get ys n
slice_get-right {A} [] ys n =
    let here : length {A = A} [] + n ≡ n = omega arith in
    ap (slice_get ys) here
slice_get-right {A} (x ∷ xs) ys n =
    let here : length (x ∷ xs) + n ≡ suc (length xs + n) = omega arith in
    ap (slice_get (x ∷ (xs ++ ys))) here ∙ slice_get-right xs ys n

pub slice_get-range : (a n k : ℕ) → k < n → slice_get (range_with_len a n) k ≡ Some (a + k)
slice_get-range a zero k h = absurd (omega arith)
slice_get-range a (suc n) zero h = ap Some (omega arith)
slice_get-range a (suc n) (suc k) h =
    slice_get-range (a + 1) n k (omega arith) ∙ ap Some (omega arith)

pub slice_get-enumerate : {A : Type 0} (n : ℕ) (xs : List A) (i : ℕ) (x : A) → slice_get xs i ≡ Some x
    → slice_get (enumerate_from n xs) i ≡ Some (n + i, x)
slice_get-enumerate n [] i x at = absurd (cc)
slice_get-enumerate n (y ∷ xs) zero x at =
    let same : y ≡ x = cc in
    let here : n ≡ n + zero = omega arith in
    cc
slice_get-enumerate n (y ∷ xs) (suc i) x at =
    let place : n + 1 + i ≡ n + suc i = omega arith in
    slice_get-enumerate (n + 1) xs i x at ∙ ap (λ k. Some (k, x)) place

-- the j-th element of the i-th list stands after the lists before it
pub slice_get-flat_map : {X A : Type 0} (f : X → List A) (xs : List X) (i j : ℕ) (x : X) (y : A)
    → slice_get xs i ≡ Some x → slice_get (f x) j ≡ Some y
    → slice_get (flat_map f xs) (length (flat_map f (take i xs)) + j) ≡ Some y
slice_get-flat_map f [] i j x y at there = absurd (cc)
slice_get-flat_map {X} {A} f (z ∷ xs) zero j x y at there =
    let same : z ≡ x = cc in
    let here : length {A = A} [] + j ≡ j = omega arith in
    ap (slice_get (f z ++ flat_map f xs)) here
    ∙ slice_get-left (f z) (flat_map f xs) j y (ap (λ v. slice_get (f v) j) same ∙ there)
slice_get-flat_map {X} {A} f (z ∷ xs) (suc i) j x y at there =
    let place : length (f z ++ flat_map f (take i xs)) + j ≡ length (f z) + (length (flat_map f (take i xs)) + j) =
    omega (arith, length-append (f z) (flat_map f (take i xs))) in
    ap (slice_get (f z ++ flat_map f xs)) place
    ∙ slice_get-right (f z) (flat_map f xs) (length (flat_map f (take i xs)) + j)
    ∙ slice_get-flat_map f xs i j x y at there

-- the same over lists of one length, numbered from a on
pub slice_get-equal : {A : Type 0} (f : ℕ → List A) (per a n m k : ℕ) (x : A) → m < n
    → ((j : ℕ) → j < m → length (f (a + j)) ≡ per)
    → slice_get (f (a + m)) k ≡ Some x
    → slice_get (flat_map f (range_with_len a n)) (m * per + k) ≡ Some x
slice_get-equal f per a zero m k x h equal at = absurd (omega arith)
slice_get-equal f per a (suc n) zero k x h equal at =
    let place : zero * per + k ≡ k = omega arith in
    let same : a ≡ a + zero = omega arith in
    ap (slice_get (f a ++ flat_map f (range_with_len (a + 1) n))) place
    ∙ slice_get-left (f a) (flat_map f (range_with_len (a + 1) n)) k x (ap (λ b. slice_get (f b) k) same ∙ at)
slice_get-equal f per a (suc n) (suc m) k x h equal at =
    let same : a + 0 ≡ a = omega arith in
    let one : length (f a) ≡ per = ap (λ b. length (f b)) (sym same) ∙ equal 0 (omega arith) in
    let place : suc m * per + k ≡ length (f a) + (m * per + k) = rw one (omega arith) in
    let there : a + 1 + m ≡ a + suc m = omega arith in
    ap (slice_get (f a ++ flat_map f (range_with_len (a + 1) n))) place
    ∙ slice_get-right (f a) (flat_map f (range_with_len (a + 1) n)) (m * per + k)
    ∙ slice_get-equal f per (a + 1) n m k x (omega arith)
    (λ j below.
    let shifted : a + 1 + j ≡ a + (j + 1) = omega arith in
    ap (λ b. length (f b)) shifted ∙ equal (j + 1) (omega arith))
    (ap (λ b. slice_get (f b) k) there ∙ at)

-- so many lists of one length
pub length-equal : {A : Type 0} (f : ℕ → List A) (per a n : ℕ) → ((j : ℕ) → j < n → length (f (a + j)) ≡ per)
    → length (flat_map f (range_with_len a n)) ≡ n * per
length-equal f per a zero equal = omega arith
length-equal f per a (suc n) equal =
    let same : a + 0 ≡ a = omega arith in
    let one : length (f a) ≡ per = ap (λ b. length (f b)) (sym same) ∙ equal 0 (omega arith) in
    let rest : length (flat_map f (range_with_len (a + 1) n)) ≡ n * per =
    length-equal f per (a + 1) n
    (λ j below.
    let shifted : a + 1 + j ≡ a + (j + 1) = omega arith in
    ap (λ b. length (f b)) shifted ∙ equal (j + 1) (omega arith)) in
    omega (arith, length-append (f a) (flat_map f (range_with_len (a + 1) n)), one, rest)

-- and one more list
pub length-last : {A : Type 0} (f : ℕ → List A) (per last a n : ℕ) → ((j : ℕ) → j < n → length (f (a + j)) ≡ per)
    → length (f (a + n)) ≡ last
    → length (flat_map f (range_with_len a (n + 1))) ≡ n * per + last
length-last f per last a zero equal end =
    let same : a + zero ≡ a = omega arith in
    let one : length (f a) ≡ last = ap (λ b. length (f b)) (sym same) ∙ end in
    omega (arith, length-append (f a) [], one)
length-last f per last a (suc n) equal end =
    let same : a + 0 ≡ a = omega arith in
    let one : length (f a) ≡ per = ap (λ b. length (f b)) (sym same) ∙ equal 0 (omega arith) in
    let there : a + 1 + n ≡ a + suc n = omega arith in
    let rest : length (flat_map f (range_with_len (a + 1) (n + 1))) ≡ n * per + last =
    length-last f per last (a + 1) n
    (λ j below.
    let shifted : a + 1 + j ≡ a + (j + 1) = omega arith in
    ap (λ b. length (f b)) shifted ∙ equal (j + 1) (omega arith))
    (ap (λ b. length (f b)) there ∙ end) in
    let count : suc n + 1 ≡ suc (n + 1) = omega arith in
    ap (λ c. length (flat_map f (range_with_len a c))) count
    ∙ omega (arith, length-append (f a) (flat_map f (range_with_len (a + 1) (n + 1))), one, rest)
