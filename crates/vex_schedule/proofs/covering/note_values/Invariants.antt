use Rattle.std.proofs.Common.{◌≡◌, ℕ, List, take}
use Rattle.std.specs.List.{list_any}
use Rattle.vex_schedule.specs.Statements.{is_just}
use Rattle.vex_schedule.specs.Covering.{noted_if, found_in}
use Rattle.vex_schedule.proofs.covering.note_values.Given as goal

abbrev pub invariant-loop-value : goal.invariant-loop-value
invariant-loop-value l = (key : List ℕ) → found_in l.found key ≡ noted_if (list_any (is_just key) (take l.value-index l.values)) (found_in l.fn.found key) l.i
