-- What holds at each place of a list that is part of another, or is filtered.
use Rattle.std.specs.Prelude.{flat_map, slice_get, filter}
use Rattle.std.specs.List.{range_with_len, enumerate_from}
use Rattle.std.proofs.Common.{◌≡◌, refl, ap, subst, ℕ, zero, suc, ◌+◌, ◌<◌, ◌≤◌, ⊎_elim, Bool, true, false, cond, ◌&&◌, List, [], ◌∷◌, ◌++◌, get_or, map, Some, All, arith}
use Rattle.std.proofs.lemmas.Bool.{cases_lt}
use Rattle.std.proofs.lemmas.Option.{slice_get-get_or}
use Rattle.job_epochs.proofs.EachLemmas.{Each}
use Rattle.job_epochs.proofs.SmallValues.{at-place}

pub both-left : (a b : Bool) → (a && b) ≡ true → a ≡ true
both-left true b h = refl
both-left false b h = h

pub both-right : (a b : Bool) → (a && b) ≡ true → b ≡ true
both-right true b h = h
both-right false b h = absurd (cc)

pub Each-all : {X : Type 0} (P : X → Type 0) (xs : List X) → All P xs → Each P xs
Each-all P xs all i x there = at-place P xs i x all there

pub all-Each : {X : Type 0} (P : X → Type 0) (xs : List X) → Each P xs → All P xs
all-Each P xs each k d inside = each k (get_or xs k d) (slice_get-get_or xs k d inside)

Each-front : {X : Type 0} (P : X → Type 0) (xs ys : List X) → Each P (xs ++ ys) → Each P xs
Each-front P [] ys each i y there = absurd (cc)
Each-front P (x ∷ xs) ys each zero y there = each 0 y there
Each-front P (x ∷ xs) ys each (suc i) y there = Each-front P xs ys (λ k z at. each (suc k) z at) i y there

Each-back : {X : Type 0} (P : X → Type 0) (xs ys : List X) → Each P (xs ++ ys) → Each P ys
Each-back P [] ys each = each
Each-back P (x ∷ xs) ys each = Each-back P xs ys (λ k z at. each (suc k) z at)

pub Each-flat_map-part : {X Y : Type 0} (P : Y → Type 0) (f : X → List Y) (xs : List X) → Each P (flat_map f xs)
    → Each (λ x. Each P (f x)) xs
Each-flat_map-part P f [] each i x there = absurd (cc)
Each-flat_map-part {X} P f (y ∷ xs) each zero x there =
    let same : y ≡ x = cc in
    subst (λ (z : X). Each P (f z)) same (Each-front P (f y) (flat_map f xs) each)
Each-flat_map-part P f (y ∷ xs) each (suc i) x there = Each-flat_map-part P f xs (Each-back P (f y) (flat_map f xs) each) i x there

pub Each-mapped : {X Y : Type 0} (P : Y → Type 0) (f : X → Y) (xs : List X) → Each (λ x. P (f x)) xs → Each P (map f xs)
Each-mapped P f [] each i y there = absurd (cc)
Each-mapped P f (x ∷ xs) each zero y there =
    let same : f x ≡ y = cc in
    subst P same (each 0 x refl)
Each-mapped P f (x ∷ xs) each (suc i) y there = Each-mapped P f xs (λ k z at. each (suc k) z at) i y there

pub Each-map-part : {X Y : Type 0} (P : Y → Type 0) (f : X → Y) (xs : List X) → Each P (map f xs) → Each (λ x. P (f x)) xs
Each-map-part P f [] each i x there = absurd (cc)
Each-map-part {X} P f (y ∷ xs) each zero x there =
    let same : y ≡ x = cc in
    subst (λ (z : X). P (f z)) same (each 0 (f y) refl)
Each-map-part P f (y ∷ xs) each (suc i) x there = Each-map-part P f xs (λ k z at. each (suc k) z at) i x there

pub Each-enumerate-part : {X : Type 0} (P : ℕ × X → Type 0) (n : ℕ) (xs : List X) → Each P (enumerate_from n xs)
    → (i : ℕ) (x : X) → slice_get xs i ≡ Some x → P (n + i, x)
Each-enumerate-part P n [] each i x there = absurd (cc)
Each-enumerate-part {X} P n (y ∷ xs) each zero x there =
    let same : y ≡ x = cc in
    let here : n ≡ n + 0 = omega arith in
    subst (λ (k : ℕ). P (k, x)) here (subst (λ (z : X). P (n, z)) same (each 0 (n, y) refl))
Each-enumerate-part {X} P n (y ∷ xs) each (suc i) x there =
    let place : n + 1 + i ≡ n + suc i = omega arith in
    subst (λ (k : ℕ). P (k, x)) place (Each-enumerate-part P (n + 1) xs (λ k z at. each (suc k) z at) i x there)

pub Each-range-part : (P : ℕ → Type 0) (a n : ℕ) → Each P (range_with_len a n) → (k : ℕ) → a ≤ k → k < a + n → P k
Each-range-part P a zero each k low high = absurd (omega arith)
Each-range-part P a (suc n) each k low high =
    ⊎_elim
    (λ (behind : a < k).
    Each-range-part P (a + 1) n (λ i x at. each (suc i) x at) k (omega (arith, behind)) (omega (arith, high)))
    (λ (first : k ≤ a).
    let same : a ≡ k = omega (arith, low, first) in
    subst P same (each 0 a refl))
    (cases_lt a k)

-- what passes a test
pub Each-filter : {X : Type 0} (P : X → Type 0) (test : X → Bool) (xs : List X) → Each P xs
    → Each (λ x. P x × (test x ≡ true)) (filter test xs)
Each-filter P test [] each = λ i x there. absurd (cc)
Each-filter {X} P test (y ∷ xs) each = by (Each-filter P test xs (λ k z at. each (suc k) z at)) (test y) refl
  where
    by : Each (λ x. P x × (test x ≡ true)) (filter test xs) → (b : Bool) → test y ≡ b
        → Each (λ x. P x × (test x ≡ true)) (cond b (y ∷ filter test xs) (filter test xs))
    by rest true passes zero x there =
        let same : y ≡ x = cc in
        subst (λ (z : X). P z × (test z ≡ true)) same (each 0 y refl, passes)
    by rest true passes (suc i) x there = rest i x there
    by rest false fails i x there = rest i x there

pub filter-map : {X Y : Type 0} (test : Y → Bool) (f : X → Y) (xs : List X)
    → filter test (map f xs) ≡ map f (filter (λ x. test (f x)) xs)
filter-map test f [] = refl
filter-map {X} {Y} test f (x ∷ xs) = by (filter-map test f xs) (test (f x))
  where
    by : filter test (map f xs) ≡ map f (filter (λ z. test (f z)) xs) → (b : Bool)
        → cond b (f x ∷ filter test (map f xs)) (filter test (map f xs))
        ≡ map f (cond b (x ∷ filter (λ z. test (f z)) xs) (filter (λ z. test (f z)) xs))
    by rest true = ap (λ (ys : List Y). f x ∷ ys) rest
    by rest false = rest
