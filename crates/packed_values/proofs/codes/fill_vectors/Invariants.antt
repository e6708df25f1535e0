-- The bytes so far.
use Rattle.std.proofs.Common.{◌≡◌, ◌<◌, ℕ, ◌*◌, length, slice_index}
use Rattle.packed_values.specs.Tables.{biased_of, there_of}
use Rattle.packed_values.specs.declared.codes.TheConstants.{LEVELS, REAL, IMAGINARY}
use Rattle.packed_values.proofs.codes.fill_vectors.Given as goal

abbrev pub invariant-loop-i : goal.invariant-loop-i
invariant-loop-i l = record {
  re_len : length l.re ≡ length l.codes;
  im_len : length l.im ≡ length l.codes;
  there_len : length l.there ≡ length l.codes;
  re : (k : ℕ) → k < 32 * l.i → slice_index l.re k ≡ biased_of LEVELS REAL l.bias (slice_index l.codes k);
  im : (k : ℕ) → k < 32 * l.i → slice_index l.im k ≡ biased_of LEVELS IMAGINARY l.bias (slice_index l.codes k);
  there : (k : ℕ) → k < 32 * l.i → slice_index l.there k ≡ there_of (slice_index l.codes k);
}
