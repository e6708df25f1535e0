-- Sums over the numbers below a bound, and over lists by the numbers of their items.
use Rattle.std.proofs.Common.{◌≡◌, ◌≢◌, ◌<◌, ◌≤◌, ℕ, zero, suc, ◌+◌, ◌-◌, ◌*◌, ◌/◌, ◌%◌, min, List, [], ◌∷◌, length, get_or, Bool, true, false, if◌then◌else◌, eqb, eq-eqb, ne_eqb, refl, sym, ap, ◌∙◌, arith, ⊎_elim, suc-mul, mul-le-mul_right, All}
use Rattle.std.specs.List.{sum_by}
use Rattle.std.proofs.lemmas.Bool.{cases_eq, cases_lt}
use Rattle.std.proofs.lemmas.Bool.Decides.{nat_tests}
use Rattle.std.proofs.lemmas.Nat.{div-add-mod'}
use Rattle.std.proofs.Math.Nat.{mod-lt}
use Rattle.std.proofs.lemmas.List.Sums.{sum_by-cons, get_or-le-sum_by}
use Rattle.std.proofs.lemmas.List.Elements.{All-head, All-tail}
use Rattle.piece_claim.specs.State.{sum_below}

pub sum_below-agree : (f g : ℕ → ℕ) (m : ℕ) → ((n : ℕ) → n < m → f n ≡ g n) → sum_below f m ≡ sum_below g m
sum_below-agree f g zero same = refl
sum_below-agree f g (suc m) same = omega (arith, sum_below-agree f g m (λ n lt. same n (omega arith)), same m (omega arith))

pub sum_below-le : (f g : ℕ → ℕ) (m : ℕ) → ((n : ℕ) → f n ≤ g n) → sum_below f m ≤ sum_below g m
sum_below-le f g zero le = omega arith
sum_below-le f g (suc m) le = omega (arith, sum_below-le f g m le, le m)

pub sum_below-zero : (f : ℕ → ℕ) (m : ℕ) → ((n : ℕ) → n < m → f n ≡ 0) → sum_below f m ≡ 0
sum_below-zero f zero none = refl
sum_below-zero f (suc m) none = omega (arith, sum_below-zero f m (λ n lt. none n (omega arith)), none m (omega arith))

pub sum_below-add : (f g : ℕ → ℕ) (m : ℕ) → sum_below (λ n. f n + g n) m ≡ sum_below f m + sum_below g m
sum_below-add f g zero = refl
sum_below-add f g (suc m) = omega (arith, sum_below-add f g m)

-- 1 where the numbers are the same
abbrev pub one : ℕ → ℕ → ℕ
one x n = if eqb x n then 1 else 0

pub one-same : (x n : ℕ) → x ≡ n → one x n ≡ 1
one-same x n e = ap (λ b. if b then 1 else 0) (eq-eqb x n e)

pub one-other : (x n : ℕ) → x ≢ n → one x n ≡ 0
one-other x n differ = ap (λ b. if b then 1 else 0) (ne_eqb x n differ)

pub one-le : (x n : ℕ) → one x n ≤ 1
one-le x n = ⊎_elim (λ (e : x ≡ n). omega (arith, one-same x n e)) (λ (differ : x ≢ n). omega (arith, one-other x n differ)) (cases_eq x n)

-- the sum of h over the one number x
sum_below-one : (h : ℕ → ℕ) (x m : ℕ) → x < m → sum_below (λ n. one x n * h n) m ≡ h x
sum_below-one h x zero lt = absurd (omega arith)
sum_below-one h x (suc m) lt = ⊎_elim
    (λ (e : x ≡ m).
    let none = sum_below-zero (λ n. one x n * h n) m (λ n less. ap (λ q. q * h n) (one-other x n (λ same. omega arith)) ∙ (let z : 0 * h n ≡ 0 = omega arith in z)) in
    let last : one x m * h m ≡ h m = ap (λ q. q * h m) (one-same x m e) ∙ (let z : 1 * h m ≡ h m = omega arith in z) in
    omega (arith, none, last, ap h e))
    (λ (differ : x ≢ m).
    let rest = sum_below-one h x m (omega arith) in
    let last : one x m * h m ≡ 0 = ap (λ q. q * h m) (one-other x m differ) ∙ (let z : 0 * h m ≡ 0 = omega arith in z) in
    omega (arith, rest, last))
    (cases_eq x m)

module _ {A : Type 0} where
  pub sum_by-le_in : (f g : A → ℕ) (xs : List A) → All (λ x. f x ≤ g x) xs → sum_by f xs ≤ sum_by g xs
  sum_by-le_in f g [] le = omega arith
  sum_by-le_in f g (x ∷ xs) le = omega (arith, sum_by-cons f x xs, sum_by-cons g x xs, All-head (λ y. f y ≤ g y) x xs le, sum_by-le_in f g xs (All-tail (λ y. f y ≤ g y) x xs le))

  pub sum_by-same_in : (f g : A → ℕ) (xs : List A) → All (λ x. f x ≡ g x) xs → sum_by f xs ≡ sum_by g xs
  sum_by-same_in f g [] same = refl
  sum_by-same_in f g (x ∷ xs) same = omega (arith, sum_by-cons f x xs, sum_by-cons g x xs, All-head (λ y. f y ≡ g y) x xs same, sum_by-same_in f g xs (All-tail (λ y. f y ≡ g y) x xs same))

-- items by their numbers
module _ {A : Type 0} (number : A → ℕ) where
  -- how many items have that number
  abbrev pub count : ℕ → List A → ℕ
  count n xs = sum_by (λ x. one (number x) n) xs

  -- a sum over a list is the sum over the numbers, each as often as it stands there
  pub sum_by_counts : (h : ℕ → ℕ) (xs : List A) (m : ℕ) → All (λ x. number x < m) xs → sum_by (λ x. h (number x)) xs ≡ sum_below (λ n. count n xs * h n) m
  sum_by_counts h [] m all = sym (sum_below-zero (λ n. 0 * h n) m (λ n lt. omega arith))
  sum_by_counts h (x ∷ xs) m all =
      let head = All-head (λ y. number y < m) x xs all in
      let rest = sum_by_counts h xs m (All-tail (λ y. number y < m) x xs all) in
      let each : (n : ℕ) → n < m → count n (x ∷ xs) * h n ≡ one (number x) n * h n + count n xs * h n =
      λ n lt. ap (λ q. q * h n) (sum_by-cons (λ y. one (number y) n) x xs) ∙ (let z : (one (number x) n + count n xs) * h n ≡ one (number x) n * h n + count n xs * h n = omega arith in z) in
      omega (
        arith,
        sum_by-cons (λ y. h (number y)) x xs,
        rest,
        sum_below-one h (number x) m head,
        sum_below-agree (λ n. count n (x ∷ xs) * h n) (λ n. one (number x) n * h n + count n xs * h n) m each,
        sum_below-add (λ n. one (number x) n * h n) (λ n. count n xs * h n) m,
      )

  -- an item's number is counted
  counted : (xs : List A) (k : ℕ) (d : A) → k < length xs → 1 ≤ count (number (get_or xs k d)) xs
  counted xs k d lt =
      let n = number (get_or xs k d) in
      omega (arith, get_or-le-sum_by (λ x. one (number x) n) xs k d lt, one-same n n refl)

  pub numbers_below : (xs : List A) (m : ℕ) → ((n : ℕ) → m ≤ n → count n xs ≡ 0) → All (λ x. number x < m) xs
  numbers_below xs m none k d lt = ⊎_elim
      (λ (less : number (get_or xs k d) < m). less)
      (λ (le : m ≤ number (get_or xs k d)). absurd (omega (arith, counted xs k d lt, none (number (get_or xs k d)) le)))
      (cases_lt (number (get_or xs k d)) m)

  -- where each number below m stands once and no other does, the sum is that over the numbers
  pub sum_of_all : (h : ℕ → ℕ) (xs : List A) (m : ℕ) → ((n : ℕ) → n < m → count n xs ≡ 1) → ((n : ℕ) → m ≤ n → count n xs ≡ 0) → sum_by (λ x. h (number x)) xs ≡ sum_below h m
  sum_of_all h xs m once none =
      sum_by_counts h xs m (numbers_below xs m none)
      ∙ sum_below-agree (λ n. count n xs * h n) h m (λ n lt. ap (λ q. q * h n) (once n lt) ∙ (let z : 1 * h n ≡ h n = omega arith in z))

-- at most so many numbers have one quotient
pub quotient_below : (g per c : ℕ) → 0 < per → (m : ℕ) → sum_below (λ n. if eqb (n / per) g then c else 0) m ≤ min (m - g * per) per * c
quotient_below g per c some_per zero = omega arith
quotient_below g per c some_per (suc m) = go (quotient_below g per c some_per m) (eqb (m / per) g) refl
  where
    go : sum_below (λ n. if eqb (n / per) g then c else 0) m ≤ min (m - g * per) per * c → (b : Bool) → eqb (m / per) g ≡ b → sum_below (λ n. if eqb (n / per) g then c else 0) m + (if eqb (m / per) g then c else 0) ≤ min (suc m - g * per) per * c
    go ih true e =
        let is : m / per ≡ g = grind (arith, nat_tests) in
        let low : m / per * per + m % per ≡ m = div-add-mod' m per in
        let high : m % per < per = mod-lt m some_per in
        let same : m / per * per ≡ g * per = ap (λ q. q * per) is in
        let step : min (suc m - g * per) per ≡ suc (min (m - g * per) per) = omega arith in
        let here : ℕ = if eqb (m / per) g then c else 0 in
        let value : here ≡ c = ap (λ b. if b then c else 0) e in
        let product : min (suc m - g * per) per * c ≡ min (m - g * per) per * c + c = ap (λ q. q * c) step ∙ suc-mul (min (m - g * per) per) c in
        omega (arith, ih, value, product)
    go ih false e =
        let here : ℕ = if eqb (m / per) g then c else 0 in
        let value : here ≡ 0 = ap (λ b. if b then c else 0) e in
        let le : min (m - g * per) per ≤ min (suc m - g * per) per = omega arith in
        omega (arith, ih, value, mul-le-mul_right c le)

pub group_below : (g per c : ℕ) → 0 < per → (m : ℕ) → sum_below (λ n. if eqb (n / per) g then c else 0) m ≤ per * c
group_below g per c some_per m =
    let few : min (m - g * per) per ≤ per = omega arith in
    omega (arith, quotient_below g per c some_per m, mul-le-mul_right c few)

-- at most `per` numbers of one group differ
pub distinct_in_group : (per g : ℕ) (ns : List ℕ) → 0 < per → ((n : ℕ) → count (λ x. x) n ns ≤ 1) → All (λ n. n / per ≡ g) ns → length ns ≤ per
distinct_in_group per g ns some_per once all =
    let m = g * per + per in
    let h : ℕ → ℕ = λ n. if eqb (n / per) g then 1 else 0 in
    let inside : All (λ n. n < m) ns = λ k d lt. let n = get_or ns k d in omega (arith, div-add-mod' n per, mod-lt n some_per, ap (λ q. q * per) (all k d lt)) in
    let ones : sum_by h ns ≡ sum_by (λ _. 1) ns = sum_by-same_in h (λ _. 1) ns (λ k d lt. one-same (get_or ns k d / per) g (all k d lt)) in
    let le : sum_below (λ n. count (λ x. x) n ns * h n) m ≤ sum_below h m = sum_below-le (λ n. count (λ x. x) n ns * h n) h m (λ n. omega (arith, mul-le-mul_right (h n) (once n))) in
    omega (arith, length_ones ns, ones, sum_by_counts (λ x. x) h ns m inside, le, group_below g per 1 some_per m)
  where
    length_ones : (xs : List ℕ) → length xs ≡ sum_by (λ _. 1) xs
    length_ones [] = refl
    length_ones (x ∷ xs) = omega (arith, sum_by-cons {X = ℕ} (λ _. 1) x xs, length_ones xs)
