use Rattle.run_ready.proofs.LawLemmas.{PlanUnder-one}
use Rattle.run_ready.proofs.laws.one_outcome.Goals as goal

pub returns : goal.returns
returns c files wrong job vex epoch a b p q =
    PlanUnder-one (record { one_file = c.one_file.ensures; one_fault = c.one_fault.ensures; not_both = c.not_both.ensures }) files wrong job vex epoch a b p q
