use Rattle.vex_reader.proofs.AnswerLemmas.{one_file}
use Rattle.vex_reader.proofs.laws.one_file.Goals as goal

pub returns : goal.returns
returns c = one_file
