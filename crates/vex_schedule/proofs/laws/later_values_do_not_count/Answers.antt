use Rattle.vex_schedule.proofs.LawLemmas.{later_values}
use Rattle.vex_schedule.proofs.laws.later_values_do_not_count.Goals as goal

pub returns : goal.returns
returns c = later_values
