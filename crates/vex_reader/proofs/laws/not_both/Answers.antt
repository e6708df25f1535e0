use Rattle.vex_reader.proofs.AnswerLemmas.{not_both}
use Rattle.vex_reader.proofs.laws.not_both.Goals as goal

pub returns : goal.returns
returns c = not_both
