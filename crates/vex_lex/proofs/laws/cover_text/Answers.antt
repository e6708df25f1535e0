use Rattle.vex_lex.proofs.GrammarLaws.{cover_text}
use Rattle.vex_lex.proofs.laws.cover_text.Goals as goal

pub returns : goal.returns
returns c = cover_text
