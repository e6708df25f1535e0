-- The bits so far, and none from here on.
use Rattle.std.proofs.Common.{◌≡◌, ◌<◌, ◌+◌, ◌^◌, ℕ, None, slice_index_or}
use Rattle.std.specs.Int.{bit_at}
use Rattle.bit_planes.specs.Held.{values_in}
use Rattle.bit_planes.specs.Shown.{plane_bit}
use Rattle.bit_planes.proofs.shown.word_at.Given as goal

abbrev pub invariant-loop-k : goal.invariant-loop-k
invariant-loop-k l = record {
  ends : l.word < 2 ^ l.k;
  bits : (k : ℕ) → k < l.k → bit_at l.word k ≡ plane_bit l.plane (slice_index_or (values_in l.held) (l.first + k) None);
}
