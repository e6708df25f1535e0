use Rattle.piece_plan.specs.Epochs.{job_sizes}
use Rattle.piece_plan.proofs.LimitLemmas.{AreLimited}
use Rattle.piece_plan.proofs.job.JobPlan.limited.Given as goal

abbrev pub invariant-loop-size : goal.invariant-loop-size
invariant-loop-size l =
    AreLimited (job_sizes l.self-inside.scans.items l.self-inside.integration l.self-inside.epoch l.self-inside.lags) l.scans.items
    l.from l.to l.first l.end l.size-index
