use Rattle.std.proofs.Common.{List, subst}
use Rattle.vex_lex.specs.declared.token.Token.{Token}
use Rattle.vex_reader.specs.Reading.{reading}
use Rattle.vex_reader.specs.Grammar.{Answers}
use Rattle.vex_reader.proofs.CountLemmas.{answer_fits}
use Rattle.vex_reader.proofs.pass.read_text.Goals as goal

pub returns-clause-scans : goal.returns-clause-scans
returns-clause-scans c =
    let Due : List Token → Type 0 = λ tokens. Answers (reading c.args.text.now tokens) c.read_tokens.result in
    answer_fits c.args.text.now c.in_ok-tokens.tokens.items c.read_tokens.result c.in_ok-tokens.ensures.cover (subst Due c.deref.ensures.value c.read_tokens.ensures)
