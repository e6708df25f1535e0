use Rattle.std.proofs.Common.{◌≡◌, take}
use Rattle.job_epochs.specs.Added.{add_cells}
use Rattle.job_epochs.proofs.added.add_cells.Given as goal

abbrev pub invariant-loop-i : goal.invariant-loop-i
invariant-loop-i l = l.sums ≡ add_cells l.initial.sums (take l.i l.more)
