use Rattle.std.proofs.Common.{◌≡◌, ℕ, Some, length, slice_get}
use Rattle.std.specs.Prelude.{option_map}
use Rattle.vex_reader.specs.declared.file.Item.{Item}
use Rattle.vex_schedule.specs.declared.covering.Covering.{Covering}
use Rattle.vex_schedule.specs.Covering.{IsCovering}
use Rattle.vex_schedule.proofs.covering.coverings_of.Given as goal

abbrev pub invariant-loop-i : goal.invariant-loop-i
invariant-loop-i l = record {
  long : length l.coverings.items ≡ l.i;
  each : (k : ℕ) (covering : Covering) (mode : Item) → slice_get l.coverings.items k ≡ Some covering
      → option_map (λ x. x.1) (slice_get l.block.defs k) ≡ Some mode → IsCovering mode.statements (length mode.statements) covering;
}
