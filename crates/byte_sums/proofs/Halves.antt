-- Sums of products by the halves of their numbers.
use Rattle.std.proofs.Common.{◌≡◌, ℕ, zero, suc, ◌+◌, ◌-◌, ◌*◌, ◌/◌, ◌%◌, ◌<◌, ◌≤◌, List, length, get_or, replicate, refl, ap, ap₂, ◌∙◌, arith, inl, inr, mul-le-mul}
use Rattle.std.proofs.Math.Nat.{zero-mul}
use Rattle.std.proofs.lemmas.Bool.{cases_lt}
use Rattle.std.proofs.lemmas.List.{get_or_past, get_or-replicate, length-replicate}
use Rattle.byte_sums.specs.Sums.{AreAtMost, nat_sum, lag_product, lag_sum}
use Rattle.byte_sums.specs.Fields.{AreFields, lower_product, upper_product, lower_sum, upper_sum}
use Rattle.byte_sums.proofs.Chunks.{nat_sum-split, nat_sum-within}

-- a list of zeros
pub zeros : (n k : ℕ) → get_or (replicate {A = ℕ} n 0) k 0 ≡ 0
zeros n k = elim (cases_lt k n) [
  | inl lt ↦ get_or-replicate {A = ℕ} n k 0 0 lt
  | inr le ↦ get_or_past (replicate {A = ℕ} n 0) k 0 (omega (arith, le, length-replicate {A = ℕ} n 0))
]

nat_sum-four : (f g : ℕ → ℕ) (n : ℕ) → ((i : ℕ) → i < n → 4 * f i ≡ g i) → 4 * nat_sum f n ≡ nat_sum g n
unfolding nat_sum
nat_sum-four f g zero h = omega arith
nat_sum-four f g (suc n) h = omega (arith, nat_sum-four f g n (λ i lt. h i (omega arith)), h n (omega arith))

nat_sum-zero : (f : ℕ → ℕ) (n : ℕ) → ((i : ℕ) → i < n → f i ≡ 0) → nat_sum f n ≡ 0
unfolding nat_sum
nat_sum-zero f zero h = refl
nat_sum-zero f (suc n) h = omega (arith, nat_sum-zero f n (λ i lt. h i (omega arith)), h n (omega arith))

quarter : (h m : ℕ) → h ≤ 3 → 4 * (h * m) ≡ 2 * h * (2 * m)
quarter zero m p = omega arith
quarter (suc zero) m p = omega arith
quarter (suc (suc zero)) m p = omega arith
quarter (suc (suc (suc zero))) m p = omega arith
quarter (suc (suc (suc (suc h)))) m p = absurd (omega (arith, p))

-- a product by the halves of its numbers
halves-product : (x y h m : ℕ) → h ≤ 3 → 2 * h ≡ x → 2 * m ≡ y → 4 * (h * m) ≡ x * y
halves-product x y h m few x_is y_is = quarter h m few ∙ ap₂ (λ (v w : ℕ). v * w) x_is y_is

half-product : (x y : ℕ) → x ≤ 3 → y ≤ 3 → x * y ≤ 9
half-product x y p q = omega (arith, mul-le-mul p q)

module _ (a b mine : List ℕ) (u : ℕ → ℕ) (at n : ℕ)
    (halves : (k : ℕ) → 2 * get_or mine k 0 ≡ get_or a k 0)
    (small : AreAtMost 3 mine)
    (all : length a ≤ n)
    (here : (k : ℕ) → k < length a → 2 * u k ≡ get_or b (at + k) 0) where
  abbrev pub product : ℕ → ℕ
  product k = get_or mine k 0 * u k

  rest : (k : ℕ) → product (length a + k) ≡ 0
  rest k =
      let none : get_or a (length a + k) 0 ≡ 0 = get_or_past a (length a + k) 0 (omega arith) in
      let mine_none : get_or mine (length a + k) 0 ≡ 0 = omega (arith, halves (length a + k), none) in
      ap (λ x. x * u (length a + k)) mine_none ∙ zero-mul (u (length a + k))

  no_more : nat_sum product n ≡ nat_sum product (length a)
  no_more =
      let count : n ≡ length a + (n - length a) = omega arith in
      let behind = nat_sum-zero (λ i. product (length a + i)) (n - length a) (λ i _. rest i) in
      ap (nat_sum product) count ∙ nat_sum-split product (length a) (n - length a) ∙ omega (arith, behind)

  pub halves-sum : 4 * nat_sum product n ≡ lag_sum a b at (length a)
  halves-sum =
      ap (λ s. 4 * s) no_more
      ∙ nat_sum-four product (lag_product a b at) (length a)
      (λ i lt. halves-product (get_or a i 0) (get_or b (at + i) 0) (get_or mine i 0) (u i) (small i) (halves i) (here i lt))

pub lower-within : (mine theirs : List ℕ) (lag n : ℕ) → AreAtMost 3 mine → AreFields theirs → lower_sum mine theirs lag n ≤ 9 * n
lower-within mine theirs lag n small fields =
    nat_sum-within (lower_product mine theirs lag) 9 n (λ i _. half-product (get_or mine i 0) (get_or theirs (lag + i) 0 % 64) (small i) (fields (lag + i)).0)

pub upper-within : (mine theirs : List ℕ) (lag n : ℕ) → AreAtMost 3 mine → AreFields theirs → upper_sum mine theirs lag n ≤ 9 * n
upper-within mine theirs lag n small fields =
    nat_sum-within (upper_product mine theirs lag) 9 n (λ i _. half-product (get_or mine i 0) (get_or theirs (lag + i) 0 / 64) (small i) (fields (lag + i)).1)
