use Rattle.std.proofs.Common.{◌≡◌, take}
use Rattle.job_epochs.specs.Added.{add_cells}
use Rattle.plain_sums.proofs.records.add_cells.Given as goal

abbrev pub invariant-loop-i : goal.invariant-loop-i
invariant-loop-i l = l.cells ≡ add_cells l.initial.cells (take l.i l.lags)
