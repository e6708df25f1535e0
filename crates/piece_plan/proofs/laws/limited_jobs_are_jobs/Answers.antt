use Rattle.piece_plan.proofs.LimitLemmas.{limited-IsJob}
use Rattle.piece_plan.proofs.laws.limited_jobs_are_jobs.Goals as goal

pub returns : goal.returns
returns c = limited-IsJob
