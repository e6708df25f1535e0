use Rattle.piece_plan.proofs.LimitLemmas.{length-epochs_of-limited}
use Rattle.piece_plan.proofs.laws.limited_jobs_are_shorter.Goals as goal

pub returns : goal.returns
returns c = length-epochs_of-limited
