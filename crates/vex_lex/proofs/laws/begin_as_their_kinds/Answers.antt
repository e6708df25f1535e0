use Rattle.vex_lex.proofs.GrammarLaws.{begin_as_their_kinds}
use Rattle.vex_lex.proofs.laws.begin_as_their_kinds.Goals as goal

pub returns : goal.returns
returns c = begin_as_their_kinds
