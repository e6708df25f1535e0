-- The ranges of a scan of a plan.
use Rattle.std.specs.Prelude.{slice_get}
use Rattle.std.proofs.Common.{◌≡◌, ℕ, Some}
use Rattle.job_plan.specs.declared.plan.ScanPlan.{ScanPlan}
use Rattle.job_plan.specs.declared.plan.Plan.{Plan}
use Rattle.job_plan.specs.Ranges.{IsPlan, IsScanPlan}
use Rattle.job_epochs.proofs.SmallValues.{at-place}

-- each has the ranges of one
pub scan-IsScanPlan : (plan : Plan) (i : ℕ) (scan : ScanPlan) → IsPlan plan → slice_get plan.scans i ≡ Some scan → IsScanPlan plan scan
scan-IsScanPlan plan i scan is there = at-place (IsScanPlan plan) plan.scans i scan is.scans there
