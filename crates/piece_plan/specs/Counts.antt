-- How many epochs stand before the end of each scan, and where an epoch of a scan stands.
use Rattle.std.specs.Prelude.{◌≡◌, ℕ, ◌+◌, ◌*◌, ◌/◌, ◌%◌, ◌<◌, List, length, take, flat_map, slice_index}
use Rattle.std.specs.Int.{div_ceil}
use Rattle.std.specs.List.{enumerate_from}
use Rattle.piece_plan.specs.declared.job.ScanSize.{ScanSize}
use Rattle.piece_plan.specs.declared.epoch.EpochPlan.{EpochPlan}
use Rattle.piece_plan.specs.Parts.{part_at}
use Rattle.piece_plan.specs.Epochs.{JobSizes, range_of, integration_at, scan_epochs}

-- the epochs of so many samples: those of their whole integrations, and those of the rest
abbrev pub count_in : ℕ → ℕ → ℕ → ℕ
count_in samples integration epoch =
    samples / integration * div_ceil integration epoch + div_ceil (samples % integration) epoch

-- epoch j of a scan, counted from its first integration, by the number of epochs in a whole one
abbrev pub epoch_at : JobSizes → ℕ → ScanSize → ℕ → EpochPlan
epoch_at job number size j =
    let per = div_ceil job.integration job.epoch in
    let m = size.first + j / per in
    let whole = integration_at job size m in
    range_of job number size m (part_at whole.from whole.to job.epoch (j % per))

-- the number of epochs of the first so many scans
unfoldable pub epochs_before : JobSizes → ℕ → ℕ
epochs_before job count =
    length (flat_map (λ (s : ℕ × ScanSize). scan_epochs job s.0 s.1) (take count (enumerate_from 0 job.scans)))

-- the number of epochs up to the end of each scan
pub record AreEnds (job : JobSizes) (ends : List ℕ) : Type 0 where
  pub many : length ends ≡ length job.scans
  pub each : (k : ℕ) → k < length ends → slice_index ends k ≡ epochs_before job (k + 1)
