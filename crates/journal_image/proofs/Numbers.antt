-- Numbers and their bytes.
use Rattle.std.proofs.Common.{◌≡◌, ◌∙◌, ⊎_elim, ℕ, zero, suc, ◌+◌, ◌-◌, ◌*◌, ◌^◌, ◌<◌, ◌≤◌, List, [], ◌∷◌, ◌++◌, length, get_or, take, drop, refl, sym, ap, subst, arith, append-nil, lit<}
use Rattle.std.proofs.lemmas.Bool.{cases_lt}
use Rattle.std.proofs.lemmas.List.{get_or_append_left, get_or-drop, get_or-take, get_or_past, length-drop, length-take-le, take_at, take_rest, drop_at}
use Rattle.std.specs.Int.{bytes_low_first, byte_at}
use Rattle.byteorder.specs.Endian.{little_bytes, little_from}
use Rattle.byteorder.specs.Numbers.{little_number-reads_back, little_from-lt, little_from-cons, little_from-take, length-bytes_low_first}

-- the same bytes at the places of a number, the same number
pub little_from-places : (n i j : ℕ) (xs ys : List ℕ) → ((k : ℕ) → k < n → get_or xs (i + k) 0 ≡ get_or ys (j + k) 0) → little_from i n xs ≡ little_from j n ys
little_from-places zero i j xs ys same = refl
little_from-places (suc n) i j xs ys same =
    let left_at : i + 0 ≡ i = omega arith in
    let right_at : j + 0 ≡ j = omega arith in
    let first : get_or xs i 0 ≡ get_or ys j 0 = ap (λ (m : ℕ). get_or xs m 0) (sym left_at) ∙ same 0 (omega arith) ∙ ap (λ (m : ℕ). get_or ys m 0) right_at in
    let rest = little_from-places n (suc i) (suc j) xs ys (λ k below. next k below) in
    rw (first, rest) refl
  where
    next : (k : ℕ) → k < n → get_or xs (suc i + k) 0 ≡ get_or ys (suc j + k) 0
    next k below =
        let left : suc i + k ≡ i + suc k = omega arith in
        let right : suc j + k ≡ j + suc k = omega arith in
        rw (left, right) (same (suc k) (omega arith))

-- a number that ends inside a front is the front's
pub little_from-front : (i n : ℕ) (xs ys : List ℕ) → i + n ≤ length xs → little_from i n (xs ++ ys) ≡ little_from i n xs
little_from-front i n xs ys inside = little_from-places n i i (xs ++ ys) xs (λ k below. get_or_append_left xs ys 0 (i + k) (omega arith))

-- fronts of one length are the same, and so is what stands behind them
pub same_front : (a b x y : List ℕ) → length a ≡ length b → a ++ x ≡ b ++ y → (a ≡ b) × (x ≡ y)
same_front a b x y long e = (
  sym (take_at a x (length b) long) ∙ ap (take (length b)) e ∙ take_at b y (length b) refl,
  sym (drop_at a x (length b) long) ∙ ap (drop (length b)) e ∙ drop_at b y (length b) refl,
)

-- numbers at a front are the same, and so is what stands behind them
pub same_number : (n a b : ℕ) (x y : List ℕ) → a < 256 ^ n → b < 256 ^ n → little_bytes n a ++ x ≡ little_bytes n b ++ y → (a ≡ b) × (x ≡ y)
same_number n a b x y low low' e = (
  sym (little_number-reads_back n a x low) ∙ ap (little_from 0 n) e ∙ little_number-reads_back n b y low',
  (same_front (little_bytes n a) (little_bytes n b) x y (length-bytes_low_first 0 n a ∙ sym (length-bytes_low_first 0 n b)) e).1,
)

-- the number at the front of what stands from a place on
pub little_from-drop : (n a : ℕ) (xs : List ℕ) → little_from 0 n (drop a xs) ≡ little_from a n xs
little_from-drop n a xs = little_from-places n 0 a (drop a xs) xs (λ k below. ap (λ (m : ℕ). get_or (drop a xs) m 0) (front k) ∙ get_or-drop a xs k 0)
  where
    front : (k : ℕ) → 0 + k ≡ k
    front k = omega arith

-- the number that is read of what stands from a place on
pub read_number : (n a : ℕ) (xs : List ℕ) (x : ℕ) → x ≡ little_from 0 n (take (length xs - a) (drop a xs)) → x ≡ little_from a n xs
read_number n a xs x is = is ∙ ap (little_from 0 n) (take_rest xs a) ∙ little_from-drop n a xs

-- bytes are numbers below 256
abbrev pub AreBytes : List ℕ → Type 0
AreBytes xs = (k : ℕ) → get_or xs k 0 < 256

byte_at-lt : (i n : ℕ) → byte_at i n < 256
byte_at-lt zero n = omega arith
byte_at-lt (suc i) n = omega arith

AreBytes-cons : (x : ℕ) (xs : List ℕ) → x < 256 → AreBytes xs → AreBytes (x ∷ xs)
AreBytes-cons x xs small rest zero = small
AreBytes-cons x xs small rest (suc k) = rest k

AreBytes-low_first : (i n x : ℕ) → AreBytes (bytes_low_first i n x)
AreBytes-low_first i zero x = λ k. lit< tt
AreBytes-low_first i (suc n) x = AreBytes-cons (byte_at i x) (bytes_low_first (suc i) n x) (byte_at-lt i x) (AreBytes-low_first (suc i) n x)

same_digits : (x y r s : ℕ) → x < 256 → y < 256 → x + 256 * r ≡ y + 256 * s → (x ≡ y) × (r ≡ s)
same_digits x y r s p q e = (omega arith, omega arith)

-- bytes of one number are the same bytes
same_bytes : (n : ℕ) (xs ys : List ℕ) → length xs ≡ n → length ys ≡ n → AreBytes xs → AreBytes ys → little_from 0 n xs ≡ little_from 0 n ys → xs ≡ ys
same_bytes zero [] [] a b p q e = refl
same_bytes zero [] (y ∷ ys) a b p q e = absurd (omega arith)
same_bytes zero (x ∷ xs) ys a b p q e = absurd (omega arith)
same_bytes (suc n) [] ys a b p q e = absurd (omega arith)
same_bytes (suc n) (x ∷ xs) [] a b p q e = absurd (omega arith)
same_bytes (suc n) (x ∷ xs) (y ∷ ys) a b p q e =
    let both = same_digits x y (little_from 1 n (x ∷ xs)) (little_from 1 n (y ∷ ys)) (p 0) (q 0) e in
    let rest : little_from 0 n xs ≡ little_from 0 n ys = sym (little_from-cons 0 n x xs) ∙ both.1 ∙ little_from-cons 0 n y ys in
    let tails : xs ≡ ys = same_bytes n xs ys (omega arith) (omega arith) (λ k. p (suc k)) (λ k. q (suc k)) rest in
    rw (both.0, tails) refl

bytes_of_number : (n : ℕ) (a : List ℕ) → length a ≡ n → AreBytes a → little_bytes n (little_from 0 n a) ≡ a
bytes_of_number n a long bytes =
    let x : ℕ = little_from 0 n a in
    let small : x < 256 ^ n = little_from-lt 0 n a bytes in
    let back : little_from 0 n (little_bytes n x) ≡ x = ap (little_from 0 n) (sym (append-nil (little_bytes n x))) ∙ little_number-reads_back n x [] small in
    same_bytes n (little_bytes n x) a (length-bytes_low_first 0 n x) long (AreBytes-low_first 0 n x) bytes back

-- the bytes of a number that stands among bytes
pub bytes_at : (n a : ℕ) (xs : List ℕ) → a + n ≤ length xs → ((k : ℕ) → k < n → get_or xs (a + k) 0 < 256) → little_bytes n (little_from a n xs) ≡ take n (drop a xs)
bytes_at n a xs inside bytes =
    ap (little_bytes n) (sym (little_from-drop n a xs) ∙ sym (little_from-take 0 n n (drop a xs) (omega arith)))
    ∙ bytes_of_number n (take n (drop a xs)) long byte
  where
    long : length (take n (drop a xs)) ≡ n
    long = length-take-le n (drop a xs) (omega (arith, length-drop a xs, inside))

    byte : (k : ℕ) → get_or (take n (drop a xs)) k 0 < 256
    byte k = ⊎_elim
        (λ (low : k < n). subst (λ (x : ℕ). x < 256) (sym (get_or-take n (drop a xs) k 0 low ∙ get_or-drop a xs k 0)) (bytes k low))
        (λ (past : n ≤ k). subst (λ (x : ℕ). x < 256) (sym (get_or_past (take n (drop a xs)) k 0 (omega (arith, long)))) (omega arith))
        (cases_lt k n)
