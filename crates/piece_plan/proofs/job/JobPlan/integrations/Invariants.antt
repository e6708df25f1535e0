use Rattle.std.specs.Prelude.{sum_by}
use Rattle.std.proofs.Common.{◌≡◌, take}
use Rattle.piece_plan.specs.Epochs.{job_sizes, integration_count}
use Rattle.piece_plan.proofs.job.JobPlan.integrations.Given as goal

abbrev pub invariant-loop-size : goal.invariant-loop-size
invariant-loop-size l =
    l.count ≡ sum_by (integration_count (job_sizes l.self-inside.scans.items l.self-inside.integration l.self-inside.epoch l.self-inside.lags))
    (take l.size-index l.self-inside.scans.items)
