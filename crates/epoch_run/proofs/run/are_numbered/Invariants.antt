use Rattle.std.proofs.Common.{ℕ, ◌<◌, get_or}
use Rattle.corr_model.specs.declared.cell.Pair.{Pair}
use Rattle.epoch_run.specs.Planes.{IsNumbered}
use Rattle.epoch_run.proofs.run.are_numbered.Given as goal

abbrev pub invariant-loop-pair : goal.invariant-loop-pair
invariant-loop-pair l = (k : ℕ) (d : Pair) → k < l.pair-index → IsNumbered (get_or l.pairs k d)
