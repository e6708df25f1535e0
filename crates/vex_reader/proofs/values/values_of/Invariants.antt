use Rattle.std.proofs.Common.{◌≡◌, ◌+◌, ◌≤◌, ◌++◌, map, length}
use Rattle.std.specs.List.{All}
use Rattle.vex_lex.specs.declared.token.Token.{Token}
use Rattle.vex_reader.specs.Shapes.{mark_of, values_of}
use Rattle.vex_reader.proofs.values.values_of.Given as goal

abbrev pub invariant-loop-value : goal.invariant-loop-value
invariant-loop-value l =
    (l.values.items ++ values_of (map (mark_of l.text) l.rest) ≡ values_of (map (mark_of l.text) l.tokens))
    × All (λ (token : Token). token.at + token.len ≤ length l.text) l.rest

abbrev pub decreases-loop-value : goal.decreases-loop-value
decreases-loop-value l = length l.rest
