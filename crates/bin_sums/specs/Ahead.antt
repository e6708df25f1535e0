-- The epochs of a job, and what is read ahead of their sums.
use Rattle.std.specs.Prelude.{◌≡◌, Option, Some, IfSome, slice_get}
use Rattle.corr_model.specs.Files.{Files}
use Rattle.piece_plan.specs.declared.epoch.EpochPlan.{EpochPlan}
use Rattle.job_plan.specs.declared.plan.ScanPlan.{ScanPlan}
use Rattle.job_plan.specs.declared.plan.Plan.{Plan}
use Rattle.job_plan.specs.Ranges.{IsScanPlan}
use Rattle.ready_job.specs.declared.ready.Ready.{Ready}
use Rattle.run_sums.specs.Found.{IsEpochOf}
use Rattle.run_sums.specs.Frames.{HoldsFrames}
use Rattle.bin_sums.specs.declared.ahead.Held.{Held}
use Rattle.bin_sums.specs.declared.ahead.BinsAhead.{BinsAhead}

-- an epoch of this scan, which is the one of that number in the plan
pub record IsOfScan (plan : Plan) (scan : ScanPlan) (e : EpochPlan) : Type 0 where
  pub there : slice_get plan.scans e.scan ≡ Some scan
  pub of_scan : IsEpochOf plan scan e
  pub ranges : IsScanPlan plan scan

-- an epoch of some scan of the plan
pub record IsOfJob (plan : Plan) (e : EpochPlan) : Type 0 where
  pub scan : ScanPlan
  pub of_scan : IsOfScan plan scan e

-- and its frames, at the samples that its lags reach
pub record IsHeld (told : Option Files) (ready : Ready) (held : Held) : Type 0 where
  pub scan : ScanPlan
  pub of_scan : IsOfScan ready.plan scan held.epoch
  pub frames : HoldsFrames told ready.plan ready.recordings.items scan held.epoch held.frames

-- what is read ahead are the frames of an epoch of the job, or nothing
abbrev pub IsAheadOf : Option Files → Ready → BinsAhead → Type 0
IsAheadOf told ready ahead = IfSome ahead.held (IsHeld told ready)
