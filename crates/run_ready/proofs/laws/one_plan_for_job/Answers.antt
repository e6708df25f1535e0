use Rattle.run_ready.proofs.LawLemmas.{PlanUnder-plan}
use Rattle.run_ready.proofs.laws.one_plan_for_job.Goals as goal

pub returns : goal.returns
returns c = PlanUnder-plan c.one_file.ensures
