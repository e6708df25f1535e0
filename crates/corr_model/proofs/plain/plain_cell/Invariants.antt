-- The cell so far, and how much each of its parts can have grown.
use Rattle.std.proofs.Common.{◌≡◌, ◌-◌}
use Rattle.corr_model.specs.Cell.{cell_in}
use Rattle.corr_model.proofs.CellLemmas.{IsGrown}
use Rattle.corr_model.proofs.plain.plain_cell.Given as goal

abbrev pub invariant-loop-n : goal.invariant-loop-n
invariant-loop-n g l = record {
  value : l.cell ≡ cell_in (g.V.Values.samples l.v) l.pair l.samples l.lag l.from l.n;
  grown : IsGrown l.cell (l.n - l.from);
}
