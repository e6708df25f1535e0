-- The files of a plan's stations.
use Rattle.std.proofs.Common.{◌<◌, ◌^◌, length, arith}
use Rattle.std.specs.List.{All}
use Rattle.job_plan.specs.declared.plan.StationPlan.{StationPlan}
use Rattle.job_plan.specs.declared.plan.Plan.{Plan}
use Rattle.job_plan.specs.Ranges.{IsPlan}
use Rattle.run_ready.specs.Sizes.{HasFiles}

-- the files of a plan's stations can be looked up
pub HasFiles-plan : (plan : Plan) → IsPlan plan → All (λ (s : StationPlan). length s.files < 2 ^ 32) plan.stations → All HasFiles plan.stations
HasFiles-plan plan is few k d inside = record {
  texts = (is.stations k d inside).files;
  few = few k d inside;
  frame = omega (arith, (is.stations k d inside).shape.least);
}
