use Rattle.std.specs.Prelude.{flat_map}
use Rattle.std.proofs.Common.{◌≡◌, take}
use Rattle.job_epochs.specs.Added.{add_cells}
use Rattle.job_epochs.specs.Sums.{lag_cells}
use Rattle.plain_sums.proofs.records.add_product.Given as goal

abbrev pub invariant-loop-i : goal.invariant-loop-i
invariant-loop-i g l =
    l.cells ≡ add_cells l.initial.cells (flat_map (lag_cells l.plan (g.V.Values.samples l.v) l.scan l.from l.to l.product) (take l.i l.scan.baselines))
