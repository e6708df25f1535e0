use Rattle.vex_schedule.proofs.LawLemmas.{scans-by_relation}
use Rattle.vex_schedule.proofs.laws.scans_by_relation.Goals as goal

pub returns : goal.returns
returns c = scans-by_relation
