-- Streams of biased bytes, and sums of products of what they stand for.
use Rattle.std.specs.Prelude.{◌≡◌, ℕ, zero, suc, ◌+◌, ◌<◌, ◌≤◌, List, slice_index, slice_index_or, ℤ, pos, ◌+ℤ◌, ◌*ℤ◌, unsigned_abs}
use Rattle.byte_sums.specs.Sums.{nat_sum}
use Rattle.corr_model.specs.declared.cell.Cell.{Cell}
use Rattle.corr_model.specs.Cell.{no_cell}
use Rattle.byte_lags.specs.declared.product.Weights.{Weights}

-- the sum of f over the first numbers
unfoldable pub int_sum : (ℕ → ℤ) → ℕ → ℤ
int_sum f zero = pos 0
int_sum f (suc n) = int_sum f n +ℤ f n

-- the sum of so many bytes from a place on
abbrev pub window : List ℕ → ℕ → ℕ → ℕ
window bytes at = nat_sum (λ i. slice_index bytes (at + i))

-- the first n bytes are the numbers of x, each with a bias
abbrev pub IsBiased : ℕ → (ℕ → ℤ) → ℕ → List ℕ → Type 0
IsBiased bias x n bytes = (i : ℕ) → i < n → pos (slice_index bytes i) ≡ x i +ℤ pos bias

-- a cell that has no number beyond so much
abbrev pub IsWithin : ℕ → Cell → Type 0
IsWithin most cell = (unsigned_abs cell.re ≤ most) × (unsigned_abs cell.im ≤ most) × (cell.count ≤ most)

abbrev pub AreWithin : ℕ → List Cell → Type 0
AreWithin most cells = (i : ℕ) → IsWithin most (slice_index_or cells i no_cell)

-- one of -1, 0 and 1
abbrev pub IsUnit : ℤ → Type 0
IsUnit x = unsigned_abs x ≤ 1

-- one of -2, -1, 0, 1 and 2
abbrev pub IsWeight : ℤ → Type 0
IsWeight w = unsigned_abs w ≤ 2

-- the sum of products of n numbers with those so many places on
abbrev pub product_sum : (ℕ → ℤ) → (ℕ → ℤ) → ℕ → ℕ → ℤ
product_sum x y lag = int_sum (λ k. x k *ℤ y (lag + k))

-- a cell to which a sum of products is added by weights
pub record IsAdded (weights : Weights) (x y : ℕ → ℤ) (lag n : ℕ) (old new : Cell) : Type 0 where
  pub re : new.re ≡ old.re +ℤ weights.re *ℤ product_sum x y lag n
  pub im : new.im ≡ old.im +ℤ weights.im *ℤ product_sum x y lag n
  pub count : new.count ≡ old.count
