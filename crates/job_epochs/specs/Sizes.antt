-- The sizes by which a plan is cut into epochs.
use Rattle.std.specs.Prelude.{length, map}
use Rattle.piece_plan.specs.declared.job.ScanSize.{ScanSize}
use Rattle.piece_plan.specs.Epochs.{JobSizes, job_sizes}
use Rattle.job_plan.specs.declared.plan.ScanPlan.{ScanPlan}
use Rattle.job_plan.specs.declared.plan.Plan.{Plan}

-- a scan from its first integration on: its length in samples, and how many products and baselines it has
abbrev pub size_of : Plan → ScanPlan → ScanSize
size_of plan scan = record {
  first = 0;
  samples = scan.samples;
  products = length plan.products;
  baselines = length scan.baselines;
}

abbrev pub sizes_of : Plan → JobSizes
sizes_of plan = job_sizes (map (size_of plan) plan.scans) plan.integration plan.epoch plan.lags
