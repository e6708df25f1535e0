-- The bytes so far, and the bits in which the codes so far differ from one: by lanes, and then in all.
use Rattle.std.proofs.Common.{◌≡◌, ◌<◌, ℕ, ◌*◌, length, bit_and, bit_xor, slice_index}
use Rattle.packed_values.specs.Tables.{biased_of}
use Rattle.packed_values.specs.declared.codes.TheConstants.{LEVELS}
use Rattle.packed_values.proofs.codes.fill_levels.Given as goal

abbrev pub invariant-loop-i : goal.invariant-loop-i
invariant-loop-i l = record {
  len : length l.out ≡ length l.codes;
  each : (k : ℕ) → k < 32 * l.i → slice_index l.out k ≡ biased_of LEVELS l.signs l.bias (slice_index l.codes k);
  lanes : length l.gathered ≡ 32;
  bits : (m : ℕ) → ((j : ℕ) → j < 32 → bit_and (slice_index l.gathered j) m ≡ 0) → (k : ℕ) → k < 32 * l.i → bit_and (bit_xor (slice_index l.codes k) l.one) m ≡ 0;
}

abbrev pub invariant-loop-k : goal.invariant-loop-k
invariant-loop-k l = record {
  len : length l.out ≡ length l.codes;
  each : (k : ℕ) → k < l.k → slice_index l.out k ≡ biased_of LEVELS l.signs l.bias (slice_index l.codes k);
  bits : (m : ℕ) → bit_and l.bits m ≡ 0 → (k : ℕ) → k < l.k → bit_and (bit_xor (slice_index l.codes k) l.one) m ≡ 0;
}
