use Rattle.vex_lex.proofs.GrammarLaws.{one_reading, one_break, not_both}
use Rattle.vex_lex.proofs.Total.{tokens_or_break}
use Rattle.vex_lex.proofs.laws.tokens_or_break.Goals as goal

pub returns : goal.returns
returns c = record {
  one_reading = one_reading;
  one_break = one_break;
  one_of_both = λ text. (tokens_or_break text, not_both text);
}
