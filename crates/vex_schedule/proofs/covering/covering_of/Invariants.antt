use Rattle.vex_schedule.specs.Covering.{IsCovering}
use Rattle.vex_schedule.proofs.covering.covering_of.Given as goal

abbrev pub invariant-loop-i : goal.invariant-loop-i
invariant-loop-i l = IsCovering l.mode.statements l.i l.covering
