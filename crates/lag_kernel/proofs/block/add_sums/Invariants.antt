use Rattle.std.proofs.Common.{◌≡◌, ℕ, ◌+◌, ◌<◌, ◌≤◌, length, get_or}
use Rattle.corr_model.specs.declared.cell.Cell.{Cell}
use Rattle.corr_model.specs.Cell.{cell_plus}
use Rattle.corr_model.proofs.CellLemmas.{IsGrown}
use Rattle.lag_kernel.specs.Parts.{parts_sum}
use Rattle.lag_kernel.proofs.block.add_sums.Given as goal

abbrev pub invariant-loop-i : goal.invariant-loop-i
invariant-loop-i l = record {
  done : (k : ℕ) (d : Cell) → k < l.i → get_or l.out k d ≡ cell_plus (get_or l.initial.out k d) (parts_sum l.a l.b k (length l.first));
  grown : (k : ℕ) (d : Cell) → k < l.i → IsGrown (get_or l.out k d) (l.pairs + length l.first);
  left : (k : ℕ) (d : Cell) → l.i ≤ k → get_or l.out k d ≡ get_or l.initial.out k d;
}
