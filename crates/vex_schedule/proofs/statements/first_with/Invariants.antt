use Rattle.std.proofs.Common.{◌≡◌, drop, filter}
use Rattle.vex_schedule.specs.Statements.{has_key}
use Rattle.vex_schedule.proofs.statements.first_with.Given as goal

abbrev pub invariant-loop-i : goal.invariant-loop-i
invariant-loop-i l = filter (has_key l.key) (drop l.i l.statements) ≡ filter (has_key l.key) l.statements
