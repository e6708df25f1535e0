use Rattle.std.proofs.Common.{◌-◌, ℕ, ◌<◌, ◌≤◌, length, get_or}
use Rattle.vex_lex.specs.Bytes.{HasByte, IsSeparator}
use Rattle.vex_lex.specs.First.{NoneFrom}
use Rattle.vex_lex.proofs.ends.tag_end.Given as goal

abbrev pub invariant-loop-at : goal.invariant-loop-at
invariant-loop-at l = record {
  within : l.at ≤ length l.text;
  passed : NoneFrom (HasByte 41 l.text) l.from l.at;
  plain : (place : ℕ) → place < l.at → l.from ≤ place → ¬ IsSeparator (get_or l.text place 0);
}

abbrev pub decreases-loop-at : goal.decreases-loop-at
decreases-loop-at l = length l.text - l.at
