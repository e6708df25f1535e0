use Rattle.vex_reader.proofs.AnswerLemmas.{file_or_fault}
use Rattle.vex_reader.proofs.laws.file_or_fault.Goals as goal

pub returns : goal.returns
returns c = file_or_fault
