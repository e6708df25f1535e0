-- The samples of a piece.
use Rattle.std.specs.Prelude.{◌-◌, ◌^◌, ◌≤◌}
use Rattle.piece_plan.specs.declared.piece.Piece.{Piece}
use Rattle.epoch_run.specs.Amounts.{WorkFields}

-- they are samples of the scan, and not too many
pub record IsPart (w : WorkFields) (p : Piece) : Type 0 where
  pub order : p.from ≤ p.to
  pub inside : p.to ≤ w.samples
  pub scan : w.samples ≤ 2 ^ 40
  pub short : p.to - p.from ≤ w.piece
  pub few : p.to - p.from ≤ 4194304
