-- How large cells are.
use Rattle.std.proofs.Common.{◌≤◌, ◌+◌, ◌^◌, ℕ, List, arith}
use Rattle.corr_model.specs.declared.cell.Cell.{Cell}
use Rattle.byte_lags.specs.Streams.{AreWithin}

pub within-more : (a b : ℕ) (cells : List Cell) → a ≤ b → AreWithin a cells → AreWithin b cells
within-more a b cells le h i = (omega (arith, le, (h i).0), omega (arith, le, (h i).1), omega (arith, le, (h i).2))

-- those to which products were added once
pub within-once : (old new : List Cell) → ((most : ℕ) → AreWithin most old → AreWithin (most + 2 ^ 34) new) → AreWithin (2 ^ 62 + 2 ^ 60) old → AreWithin (2 ^ 62 + 2 ^ 61) new
within-once old new added within = within-more (2 ^ 62 + 2 ^ 60 + 2 ^ 34) (2 ^ 62 + 2 ^ 61) new (omega arith) (added (2 ^ 62 + 2 ^ 60) within)
