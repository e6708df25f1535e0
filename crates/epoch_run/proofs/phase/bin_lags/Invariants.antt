use Rattle.std.proofs.Common.{◌≡◌, ℕ, ◌-◌, ◌*◌, ◌<◌, ◌≤◌, get_or}
use Rattle.corr_model.specs.declared.cell.Cell.{Cell}
use Rattle.delay_track.specs.Track.{model_of}
use Rattle.lag_kernel.specs.Planes.{plane_samples, plane_pair}
use Rattle.pulsar_bins.specs.Bin.{bin_at}
use Rattle.epoch_run.proofs.BinnedCells.{cell_number}
use Rattle.epoch_run.proofs.phase.bin_lags.Given as goal

abbrev pub invariant-loop-run : goal.invariant-loop-run
invariant-loop-run l = record {
  model : l.runs.model ≡ model_of l.phase.track;
  count : l.runs.count ≡ l.phase.count;
  to : l.runs.to ≡ l.to;
  begun : l.from ≤ l.runs.at;
  within : l.runs.at ≤ l.to;
  cells : (k : ℕ) (d : Cell) → k < l.phase.count * l.lags → get_or l.cells k d
      ≡ cell_number (bin_at l.phase.count (model_of l.phase.track)) l.phase.count (plane_samples l.a l.b) l.phase.track.samples l.lags l.from l.runs.at plane_pair k;
}

abbrev pub decreases-loop-run : goal.decreases-loop-run
decreases-loop-run l = l.runs.to - l.runs.at
