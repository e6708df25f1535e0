use Rattle.std.proofs.Common.{ap, ◌∙◌}
use Rattle.epoch_run.specs.Amounts.{work_cells}
use Rattle.epoch_run.specs.Planes.{planed}
use Rattle.epoch_run.specs.Streamed.{streamed}
use Rattle.epoch_run.proofs.BinnedCells.{bin_cells_in_epoch-one, bin_cells_in_epoch-values}
use Rattle.epoch_run.proofs.run.sum_planes.Goals as goal

pub returns-clause-cells : goal.returns-clause-cells
returns-clause-cells g c =
    c.in_ok-sums.ensures.cells
    ∙ ap work_cells c.new-work.ensures
    ∙ bin_cells_in_epoch-one (planed c.args.planes.now) c.args.pairs.now c.args.samples c.args.plan.now

pub returns-clause-streams : goal.returns-clause-streams
returns-clause-streams g c streams held =
    let z = planed c.args.planes.now in
    c.in_ok-sums.ensures.cells
    ∙ ap work_cells c.new-work.ensures
    ∙ bin_cells_in_epoch-values z (streamed streams) c.args.pairs.now c.args.samples c.args.plan.now (λ n. 0) 1 held c.are_numbered.ensures
    ∙ bin_cells_in_epoch-one (streamed streams) c.args.pairs.now c.args.samples c.args.plan.now
