-- The bits so far.
use Rattle.std.proofs.Common.{◌≡◌, ◌<◌, ℕ, bit_and, bit_xor, slice_index}
use Rattle.packed_values.proofs.kinds.differing.Given as goal

abbrev pub invariant-loop-code : goal.invariant-loop-code
invariant-loop-code l = record {
  each : (m : ℕ) → bit_and l.bits m ≡ 0 → (k : ℕ) → k < l.code-index → bit_and (bit_xor (slice_index l.codes k) l.one) m ≡ 0;
  all : (m : ℕ) → ((k : ℕ) → k < l.code-index → bit_and (bit_xor (slice_index l.codes k) l.one) m ≡ 0) → bit_and l.bits m ≡ 0;
}
