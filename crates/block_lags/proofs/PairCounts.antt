-- The number of pairs of two rows at a lag.
use Rattle.std.proofs.Common.{◌≡◌, ℕ, zero, suc, ◌+◌, ◌*◌, ◌<◌, ◌≤◌, List, get_or, length, take, replicate, refl, sym, ap, ap₂, ◌∙◌, arith, inl, inr}
use Rattle.std.proofs.lemmas.Bool.{cases_lt}
use Rattle.std.proofs.lemmas.List.{get_or-take, get_or-replicate, get_or_past, length-replicate, length-take-le}
use Rattle.byte_sums.specs.Sums.{nat_sum, lag_product, lag_sum, AreAtMost}
use Rattle.byte_sums.proofs.Chunks.{nat_sum-same}
use Rattle.corr_model.specs.Cell.{Value}
use Rattle.byte_streams.specs.Values.{byte_value, there_of}
use Rattle.block_lags.specs.Cells.{pair_at, lag_cell}
use Rattle.block_lags.proofs.Sums.{sum-count}
use Rattle.block_lags.proofs.Products.{product-count}

pub there-is : (bias r i t : ℕ) → t ≤ 1 → t ≡ there_of (byte_value bias r i t)
there-is bias r i zero le = refl
there-is bias r i (suc zero) le = refl
there-is bias r i (suc (suc t)) le = absurd (omega (arith, le))

ones : (f : ℕ → ℕ) (n : ℕ) → ((k : ℕ) → k < n → f k ≡ 1) → nat_sum f n ≡ n
unfolding nat_sum
ones f zero each = refl
ones f (suc n) each = omega (arith, ones f n (λ k lt. each k (omega arith)), each n (omega arith))

times-one : (one x : ℕ) → one ≡ 1 → (one * x ≡ x) × (x * one ≡ x)
times-one one x e = (ap (λ (y : ℕ). y * x) e ∙ omega arith, ap (λ (y : ℕ). x * y) e ∙ omega arith)

-- numbers that tell where values are count the pairs
module _ (v w : ℕ → Value) (lag n : ℕ) where
  counted : (f : ℕ → ℕ) → ((k : ℕ) → k < n → f k ≡ there_of (v k) * there_of (w (lag + k))) → nat_sum f n ≡ (lag_cell v w lag n).count
  unfolding lag_cell
  counted f each = sum-count (pair_at v w lag) f n (λ k lt. each k lt ∙ sym (product-count (v k) (w (lag + k))))

  pub count-is : (a b : List ℕ) → ((k : ℕ) → k < n → get_or a k 0 ≡ there_of (v k)) → ((k : ℕ) → k < n → get_or b (lag + k) 0 ≡ there_of (w (lag + k)))
      → lag_sum a b lag n ≡ (lag_cell v w lag n).count
  count-is a b first second = counted (lag_product a b lag) (λ k lt. ap₂ (λ (x y : ℕ). x * y) (first k lt) (second k lt))

  -- where the values of one row, or of both, are all there
  pub second-is : (b : List ℕ) → ((k : ℕ) → there_of (v k) ≡ 1) → ((k : ℕ) → k < n → get_or b (lag + k) 0 ≡ there_of (w (lag + k)))
      → nat_sum (λ k. get_or b (lag + k) 0) n ≡ (lag_cell v w lag n).count
  second-is b first second = counted (λ k. get_or b (lag + k) 0) (λ k lt. second k lt ∙ sym (times-one (there_of (v k)) (there_of (w (lag + k))) (first k)).0)

  pub first-is : (a : List ℕ) → ((k : ℕ) → k < n → get_or a k 0 ≡ there_of (v k)) → ((k : ℕ) → there_of (w k) ≡ 1)
      → nat_sum (λ k. get_or a k 0) n ≡ (lag_cell v w lag n).count
  first-is a first second = counted (λ k. get_or a k 0) (λ k lt. first k lt ∙ sym (times-one (there_of (w (lag + k))) (there_of (v k)) (second (lag + k))).1)

  pub whole-is : ((k : ℕ) → there_of (v k) ≡ 1) → ((k : ℕ) → there_of (w k) ≡ 1) → n ≡ (lag_cell v w lag n).count
  whole-is first second =
      sym (ones (λ _. 1) n (λ _ _. refl)) ∙ counted (λ _. 1) (λ k _. sym (ap₂ (λ (x y : ℕ). x * y) (first k) (second (lag + k))))

-- where all bytes are 1
pub all-count : (a b : List ℕ) (lag n : ℕ) → n ≡ length a → length a + lag ≤ length b
    → ((k : ℕ) → k < length a → get_or a k 0 ≡ 1) → ((k : ℕ) → k < length b → get_or b k 0 ≡ 1) → n ≡ lag_sum a b lag n
all-count a b lag n e room first second =
    sym (ones (lag_product a b lag) n (λ k lt. ap₂ (λ (x y : ℕ). x * y) (first k (omega (arith, lt, e))) (second (lag + k) (omega (arith, lt, e, room)))))

-- bytes that are all 1
module _ (most n : ℕ) (le : n ≤ most) where
  abbrev all : List ℕ
  all = take n (replicate {A = ℕ} most 1)

  long : length all ≡ n
  long = length-take-le n (replicate {A = ℕ} most 1) (omega (arith, le, length-replicate {A = ℕ} most 1))

  each : (k : ℕ) → k < n → get_or all k 0 ≡ 1
  each k lt = get_or-take n (replicate {A = ℕ} most 1) k 0 lt ∙ get_or-replicate most k 1 0 (omega (arith, lt, le))

  pub small : AreAtMost 1 all
  small k =
      elim (cases_lt k n) [
        | inl l ↦ omega (arith, each k l)
        | inr m ↦ omega (arith, get_or_past all k 0 (omega (arith, m, long)))
      ]

  pub sum-second : (b : List ℕ) (lag : ℕ) → lag_sum all b lag (length all) ≡ nat_sum (λ k. get_or b (lag + k) 0) n
  sum-second b lag =
      ap (lag_sum all b lag) long
      ∙ nat_sum-same (lag_product all b lag) (λ k. get_or b (lag + k) 0) n (λ k lt. (times-one (get_or all k 0) (get_or b (lag + k) 0) (each k lt)).0)

  pub sum-first : (a : List ℕ) (lag : ℕ) → length a + lag ≤ n → lag_sum a all lag (length a) ≡ nat_sum (λ k. get_or a k 0) (length a)
  sum-first a lag room =
      nat_sum-same (lag_product a all lag) (λ k. get_or a k 0) (length a)
      (λ k lt. (times-one (get_or all (lag + k) 0) (get_or a k 0) (each (lag + k) (omega (arith, lt, room)))).1)
