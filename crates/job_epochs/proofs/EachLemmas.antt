-- What holds at each place of a list.
use Rattle.std.specs.Prelude.{flat_map, slice_get}
use Rattle.std.specs.List.{range_with_len, enumerate_from}
use Rattle.std.proofs.Common.{◌≡◌, ◌∙◌, refl, ap, subst, ℕ, zero, suc, ◌+◌, ◌<◌, ◌≤◌, List, [], ◌∷◌, ◌++◌, map, Some, arith}

-- a fact of each element, by its place
abbrev pub Each : {X : Type 0} → (X → Type 0) → List X → Type 0
Each {X} P xs = (i : ℕ) (x : X) → slice_get xs i ≡ Some x → P x

pub Each-append : {X : Type 0} (P : X → Type 0) (xs ys : List X) → Each P xs → Each P ys → Each P (xs ++ ys)
Each-append P [] ys first second i y there = second i y there
Each-append P (x ∷ xs) ys first second zero y there = first 0 y there
Each-append P (x ∷ xs) ys first second (suc i) y there = Each-append P xs ys (λ k z at. first (suc k) z at) second i y there

pub Each-flat_map : {X Y : Type 0} (P : Y → Type 0) (f : X → List Y) (xs : List X) → Each (λ x. Each P (f x)) xs
    → Each P (flat_map f xs)
Each-flat_map P f [] each i y there = absurd (cc)
Each-flat_map P f (x ∷ xs) each i y there =
    Each-append P (f x) (flat_map f xs) (each 0 x refl) (Each-flat_map P f xs (λ k z at. each (suc k) z at)) i y there

pub Each-map : {X Y : Type 0} (P : Y → Type 0) (f : X → Y) (xs : List X) → ((x : X) → P (f x)) → Each P (map f xs)
Each-map P f [] each i y there = absurd (cc)
Each-map P f (x ∷ xs) each zero y there =
    let same : f x ≡ y = cc in
    subst P same (each x)
Each-map P f (x ∷ xs) each (suc i) y there = Each-map P f xs each i y there

-- a thing and its number
pub Each-enumerate : {X : Type 0} (P : ℕ × X → Type 0) (n : ℕ) (xs : List X)
    → ((i : ℕ) (x : X) → slice_get xs i ≡ Some x → P (n + i, x)) → Each P (enumerate_from n xs)
Each-enumerate P n [] each i s there = absurd (cc)
Each-enumerate {X} P n (x ∷ xs) each zero s there =
    let same : ◌≡◌ {A = ℕ × X} (n, x) s = cc in
    let here : n + 0 ≡ n = omega arith in
    subst P (ap (λ (k : ℕ). (k, x)) here ∙ same) (each 0 x refl)
Each-enumerate {X} P n (x ∷ xs) each (suc i) s there =
    Each-enumerate P (n + 1) xs
    (λ k y at.
    let place : n + suc k ≡ n + 1 + k = omega arith in
    subst (λ (j : ℕ). P (j, y)) place (each (suc k) y at))
    i s there

-- lists that are put together of the same lists
pub flat_map-same : {X Y : Type 0} (f g : X → List Y) (xs : List X) → Each (λ x. f x ≡ g x) xs → flat_map f xs ≡ flat_map g xs
flat_map-same f g [] same = refl
flat_map-same {X} {Y} f g (x ∷ xs) same =
    ap (λ (ys : List Y). ys ++ flat_map f xs) (same 0 x refl)
    ∙ ap (λ (ys : List Y). g x ++ ys) (flat_map-same f g xs (λ k z at. same (suc k) z at))

-- the numbers of a range
pub Each-range : (P : ℕ → Type 0) (a n : ℕ) → ((k : ℕ) → a ≤ k → k < a + n → P k) → Each P (range_with_len a n)
Each-range P a zero each i k there = absurd (cc)
Each-range P a (suc n) each zero k there =
    let same : a ≡ k = cc in
    subst P same (each a (omega arith) (omega arith))
Each-range P a (suc n) each (suc i) k there =
    Each-range P (a + 1) n (λ j low high. each j (omega (arith, low)) (omega (arith, high))) i k there
