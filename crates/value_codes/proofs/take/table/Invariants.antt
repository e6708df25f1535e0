-- The bytes so far.
use Rattle.std.proofs.Common.{◌≡◌, ◌/◌, ◌%◌, ◌^◌, ◌<◌, ℕ, length, slice_index}
use Rattle.value_codes.specs.Taken.{taken_of}
use Rattle.value_codes.proofs.take.table.Given as goal

abbrev pub invariant-loop-i : goal.invariant-loop-i
invariant-loop-i l = record {
  long : length l.lanes ≡ 16;
  done : (i : ℕ) → i < l.i → slice_index l.lanes i ≡ taken_of l.bits (i / 2 ^ l.low % 2 ^ l.bits);
}
