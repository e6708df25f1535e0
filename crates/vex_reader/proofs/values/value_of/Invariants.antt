use Rattle.std.proofs.Common.{◌≡◌, ◌+◌, map, take}
use Rattle.vex_lex.specs.declared.token.Token.{Token}
use Rattle.vex_lex.specs.Shapes.{span}
use Rattle.vex_reader.proofs.values.value_of.Given as goal

abbrev pub invariant-loop-token : goal.invariant-loop-token
invariant-loop-token l = l.words.items ≡ map (λ (token : Token). span l.text token.at (token.at + token.len)) (take l.token-index l.tokens)
