-- The cell of two rows of values at a lag (Thompson, Moran and Swenson, chapter 8).
use Rattle.std.specs.Prelude.{◌≡◌, ℕ, ◌+◌, ◌+ℤ◌}
use Rattle.corr_model.specs.declared.cell.Cell.{Cell}
use Rattle.corr_model.specs.Cell.{Value, product_of, sum_from}

-- what a place of the first row adds at a lag, with the second row's value that is so many places on
abbrev pub pair_at : (ℕ → Value) → (ℕ → Value) → ℕ → ℕ → Cell
pair_at v w lag k = product_of (v k) (w (lag + k))

-- what the first n places add
unfoldable pub lag_cell : (ℕ → Value) → (ℕ → Value) → ℕ → ℕ → Cell
lag_cell v w lag n = sum_from (pair_at v w lag) 0 n

-- a cell to which another one is added
pub record IsGrown (more : Cell) (old new : Cell) : Type 0 where
  pub re : new.re ≡ old.re +ℤ more.re
  pub im : new.im ≡ old.im +ℤ more.im
  pub count : new.count ≡ old.count + more.count

-- a cell to which the sums of products of another one are added, but not its pairs
pub record HasProducts (more : Cell) (old new : Cell) : Type 0 where
  pub re : new.re ≡ old.re +ℤ more.re
  pub im : new.im ≡ old.im +ℤ more.im
  pub count : new.count ≡ old.count
