use Rattle.std.specs.Prelude.{flat_map}
use Rattle.std.proofs.Common.{◌≡◌, take}
use Rattle.job_epochs.specs.Added.{add_cells}
use Rattle.job_epochs.specs.Sums.{baseline_cells}
use Rattle.plain_sums.proofs.records.add_range.Given as goal

abbrev pub invariant-loop-i : goal.invariant-loop-i
invariant-loop-i g l =
    l.cells ≡ add_cells l.initial.cells (flat_map (baseline_cells l.plan (g.V.Values.samples l.v) l.scan l.from l.to) (take l.i l.plan.products))
