use Rattle.std.proofs.Common.{◌-◌, ◌≤◌, length}
use Rattle.vex_lex.specs.Grammar.{IsGap}
use Rattle.vex_lex.proofs.ends.gap_end.Given as goal

abbrev pub invariant-loop-at : goal.invariant-loop-at
invariant-loop-at l = record { within : l.at ≤ length l.text; gap : IsGap l.text l.from l.at }

abbrev pub decreases-loop-at : goal.decreases-loop-at
decreases-loop-at l = length l.text - l.at
