-- An epoch of a plan, and the scan that it is of.
use Rattle.std.specs.Prelude.{◌≡◌, ◌≤◌, length, Some, slice_get}
use Rattle.piece_plan.specs.declared.epoch.EpochPlan.{EpochPlan}
use Rattle.piece_plan.specs.Epochs.{JobSizes, IsEpoch, IsOfPlan}
use Rattle.job_plan.specs.declared.plan.ScanPlan.{ScanPlan}
use Rattle.job_plan.specs.declared.plan.Plan.{Plan}
use Rattle.job_plan.specs.Ranges.{IsScanPlan}

-- an epoch of this scan of the plan
pub record IsEpochOf (plan : Plan) (scan : ScanPlan) (e : EpochPlan) : Type 0 where
  pub of_plan : IsOfPlan e
  pub inside : e.to ≤ scan.samples
  pub products : e.products ≡ length plan.products
  pub baselines : e.baselines ≡ length scan.baselines
  pub lags : e.lags ≡ plan.lags

-- an epoch of this scan, which is the one of that number in the plan
pub record IsOfScan (plan : Plan) (scan : ScanPlan) (e : EpochPlan) : Type 0 where
  pub there : slice_get plan.scans e.scan ≡ Some scan
  pub of_scan : IsEpochOf plan scan e
  pub ranges : IsScanPlan plan scan

-- an epoch of the job, of some scan of its plan
pub record IsOfJob (plan : Plan) (job : JobSizes) (e : EpochPlan) : Type 0 where
  pub fits : IsEpoch job e
  pub scan : ScanPlan
  pub of_scan : IsOfScan plan scan e
