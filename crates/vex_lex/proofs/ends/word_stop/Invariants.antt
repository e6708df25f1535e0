use Rattle.std.proofs.Common.{◌-◌, ◌≤◌, length}
use Rattle.vex_lex.specs.First.{NoneFrom}
use Rattle.vex_lex.specs.Shapes.{StopsWord}
use Rattle.vex_lex.proofs.ends.word_stop.Given as goal

abbrev pub invariant-loop-at : goal.invariant-loop-at
invariant-loop-at l = record { within : l.at ≤ length l.text; passed : NoneFrom (StopsWord l.text) l.from l.at }

abbrev pub decreases-loop-at : goal.decreases-loop-at
decreases-loop-at l = length l.text - l.at
