use Rattle.std.proofs.Common.{ap, ◌∙◌}
use Rattle.delay_track.specs.Track.{model_of}
use Rattle.pulsar_bins.specs.Bin.{bin_at}
use Rattle.epoch_run.specs.Amounts.{work_cells}
use Rattle.epoch_run.specs.Planes.{planed}
use Rattle.epoch_run.specs.Streamed.{streamed}
use Rattle.epoch_run.proofs.BinnedCells.{bin_cells_in_epoch-values}
use Rattle.epoch_run.proofs.run.sum_bins.Goals as goal

pub returns-clause-cells : goal.returns-clause-cells
returns-clause-cells g c = c.in_ok-sums.ensures.cells ∙ ap work_cells c.by_bins-work.ensures

pub returns-clause-streams : goal.returns-clause-streams
returns-clause-streams g c streams held =
    let x = c.args in
    returns-clause-cells g c
    ∙ bin_cells_in_epoch-values (planed x.planes.now) (streamed streams) x.pairs.now x.samples x.plan.now
    (bin_at x.count (model_of x.track.now)) x.count held c.are_numbered.ensures
