use Rattle.piece_plan.specs.Epochs.{job_sizes}
use Rattle.piece_plan.proofs.JobLemmas.{AreCounted}
use Rattle.piece_plan.proofs.job.JobPlan.new.Given as goal

abbrev pub invariant-loop-size : goal.invariant-loop-size
invariant-loop-size l = AreCounted (job_sizes l.scans l.integration l.epoch l.lags) l.ends.items l.size-index l.end
