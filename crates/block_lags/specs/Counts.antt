-- Counts of pairs.
use Rattle.std.specs.Prelude.{◌≡◌, ℕ, ◌+◌}
use Rattle.corr_model.specs.declared.cell.Cell.{Cell}

-- a cell with so many pairs more, and the same sums of products
pub record IsCounted (pairs : ℕ) (old new : Cell) : Type 0 where
  pub re : new.re ≡ old.re
  pub im : new.im ≡ old.im
  pub count : new.count ≡ old.count + pairs
