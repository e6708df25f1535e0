use Rattle.std.proofs.Common.{◌-◌, ◌≤◌, length}
use Rattle.vex_lex.specs.Bytes.{IsWhite, IsAt, HasByte}
use Rattle.vex_lex.specs.Grammar.{LexesBetween}
use Rattle.vex_lex.proofs.scan.scan_text.Given as goal

abbrev pub invariant-loop-at : goal.invariant-loop-at
invariant-loop-at l = record {
  within : l.at ≤ length l.text;
  front : LexesBetween l.text 0 l.found.items l.at;
  no_white : ¬ IsAt IsWhite l.text l.at;
  no_comment : ¬ HasByte 42 l.text l.at;
}

abbrev pub decreases-loop-at : goal.decreases-loop-at
decreases-loop-at l = length l.text - l.at
