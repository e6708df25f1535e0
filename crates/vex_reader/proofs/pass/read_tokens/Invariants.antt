use Rattle.std.proofs.Common.{◌≡◌, ◌+◌, ◌≤◌, length}
use Rattle.std.specs.List.{All, slice_split}
use Rattle.vex_lex.specs.declared.token.Token.{Token}
use Rattle.vex_lex.specs.declared.token.TokenKind.TheVariants.{Semicolon}
use Rattle.vex_reader.specs.Shapes.{is_sign}
use Rattle.vex_reader.specs.Reading.{reading_from, reading}
use Rattle.vex_reader.specs.ReadingState.{state_of}
use Rattle.vex_reader.proofs.pass.read_tokens.Given as goal

abbrev pub invariant-loop-statement : goal.invariant-loop-statement
invariant-loop-statement l =
    (reading l.text l.tokens ≡ reading_from l.text (state_of l.state) (slice_split (λ (token : Token). is_sign Semicolon token.kind) l.rest))
    × All (λ (token : Token). token.at + token.len ≤ length l.text) l.rest

abbrev pub decreases-loop-statement : goal.decreases-loop-statement
decreases-loop-statement l = length l.rest
