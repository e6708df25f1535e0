-- Samples of an integration as an epoch.
use Rattle.std.specs.Prelude.{slice_get}
use Rattle.std.proofs.Common.{◌≡◌, refl, ℕ, ◌-◌, ◌<◌, ◌≤◌, Some}
use Rattle.piece_plan.specs.declared.job.ScanSize.{ScanSize}
use Rattle.piece_plan.specs.Epochs.{JobSizes, IsEpoch, range_of, integration_at}

pub range-IsEpoch : (job : JobSizes) (number : ℕ) (size : ScanSize) (m from to : ℕ) → slice_get job.scans number ≡ Some size → size.first ≤ m
    → (integration_at job size m).from ≤ from → from < to → to ≤ (integration_at job size m).to → to - from ≤ 4194304
    → IsEpoch job (range_of job number size m (record { from = from; to = to }))
range-IsEpoch job number size m from to at begins low some high short = record {
  size = size;
  scan = at;
  products = refl;
  baselines = refl;
  lags = refl;
  begins = begins;
  from = low;
  some = some;
  to = high;
  short = short;
}
