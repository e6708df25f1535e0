use Rattle.std.proofs.Common.{◌≡◌, ℕ, ◌+◌, ◌<◌, ◌≤◌, get_or}
use Rattle.corr_model.specs.declared.cell.Cell.{Cell}
use Rattle.corr_model.specs.Cell.{cell_plus}
use Rattle.epoch_run.proofs.phase.add_cells.Given as goal

abbrev pub invariant-loop-i : goal.invariant-loop-i
invariant-loop-i l = record {
  before : (k : ℕ) (d : Cell) → k < l.at → get_or l.cells k d ≡ get_or l.initial.cells k d;
  done : (k : ℕ) (d : Cell) → k < l.i → get_or l.cells (l.at + k) d ≡ cell_plus (get_or l.initial.cells (l.at + k) d) (get_or l.more k d);
  left : (k : ℕ) (d : Cell) → l.at + l.i ≤ k → get_or l.cells k d ≡ get_or l.initial.cells k d;
}
