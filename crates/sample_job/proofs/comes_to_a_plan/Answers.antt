use Rattle.sample_job.proofs.PlanLemmas.{comes}
use Rattle.sample_job.proofs.comes_to_a_plan.Goals as goal

pub returns : goal.returns
returns c seed seconds some few = comes c.one_outcome.ensures seed seconds some few
