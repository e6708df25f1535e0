use Rattle.vlbi_core.proofs.HistoryLemmas.{alike}
use Rattle.vlbi_core.proofs.laws.alike_by_job.Goals as goal

pub returns : goal.returns
returns c = λ files first second a b one two same. alike c.one_plan_for_job.ensures c.parts_have_the_plan.ensures files first second a b one two same
