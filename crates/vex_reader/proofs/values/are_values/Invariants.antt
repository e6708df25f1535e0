use Rattle.std.proofs.Common.{ℕ, ◌≡◌, ◌<◌, true, slice_index_or}
use Rattle.vex_lex.specs.declared.token.Token.{Token}
use Rattle.vex_reader.specs.Shapes.{stands_in_values}
use Rattle.vex_reader.proofs.values.are_values.Given as goal

abbrev pub invariant-loop-token : goal.invariant-loop-token
invariant-loop-token l = (k : ℕ) (d : Token) → k < l.token-index → stands_in_values (slice_index_or l.tokens k d).kind ≡ true
