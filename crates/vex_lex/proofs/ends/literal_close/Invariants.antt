use Rattle.std.proofs.Common.{◌-◌, ◌≤◌, length}
use Rattle.vex_lex.proofs.Closes.{Passes}
use Rattle.vex_lex.proofs.ends.literal_close.Given as goal

abbrev pub invariant-loop-at : goal.invariant-loop-at
invariant-loop-at l = record { within : l.at ≤ length l.text; passes : Passes l.tag l.text l.from l.behind l.at }

abbrev pub decreases-loop-at : goal.decreases-loop-at
decreases-loop-at l = length l.text - l.at
