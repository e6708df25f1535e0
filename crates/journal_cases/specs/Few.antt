-- Jobs with few cells.
use Rattle.std.specs.Prelude.{ℕ, ◌*◌, ◌≤◌}
use Rattle.piece_plan.specs.declared.job.ScanSize.{ScanSize}
use Rattle.piece_plan.specs.declared.epoch.EpochPlan.{EpochPlan}
use Rattle.piece_plan.specs.Epochs.{JobSizes, IsEpoch, cell_count}

-- an epoch of a scan of this size has at most 1,000 cells
abbrev pub HasFewCells : ℕ → ScanSize → Type 0
HasFewCells lags size = size.products * size.baselines * lags ≤ 1000

-- so has each epoch of the job
abbrev pub AreFew : JobSizes → Type 0
AreFew job = (e : EpochPlan) → IsEpoch job e → cell_count e ≤ 1000
