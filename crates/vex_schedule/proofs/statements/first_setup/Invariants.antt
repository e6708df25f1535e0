use Rattle.std.proofs.Common.{◌≡◌, drop, filter}
use Rattle.vex_schedule.specs.Statements.{is_setup}
use Rattle.vex_schedule.proofs.statements.first_setup.Given as goal

abbrev pub invariant-loop-i : goal.invariant-loop-i
invariant-loop-i l = filter (is_setup l.key) (drop l.i l.statements) ≡ filter (is_setup l.key) l.statements
