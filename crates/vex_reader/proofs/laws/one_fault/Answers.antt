use Rattle.vex_reader.proofs.AnswerLemmas.{one_fault}
use Rattle.vex_reader.proofs.laws.one_fault.Goals as goal

pub returns : goal.returns
returns c = one_fault
