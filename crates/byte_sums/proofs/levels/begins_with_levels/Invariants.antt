-- The bytes so far are levels where they have no other bits.
use Rattle.std.proofs.Common.{◌≡◌, ◌<◌, ℕ, bit_and, get_or}
use Rattle.byte_sums.specs.Fields.{IsLevel}
use Rattle.byte_sums.proofs.levels.begins_with_levels.Given as goal

abbrev pub invariant-loop-k : goal.invariant-loop-k
invariant-loop-k l = bit_and l.bits 249 ≡ 0 → (k : ℕ) → k < l.k → IsLevel (get_or l.bytes k 0)
