use Rattle.run_part.proofs.LawLemmas.{PartOf-plan}
use Rattle.run_part.proofs.laws.parts_have_the_plan.Goals as goal

pub returns : goal.returns
returns c files job vex epoch to plan is = PartOf-plan files job vex epoch to plan is
