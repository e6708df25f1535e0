use Rattle.std.proofs.Common.{◌≡◌, take}
use Rattle.job_epochs.specs.Added.{add_cells}
use Rattle.bin_sums.proofs.epoch.add_sums.Given as goal

abbrev pub invariant-loop-i : goal.invariant-loop-i
invariant-loop-i l = l.cells ≡ add_cells l.initial.cells (take l.i l.sums.cells)
