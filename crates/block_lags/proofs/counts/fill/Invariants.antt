-- The places so far have the number.
use Rattle.std.proofs.Common.{◌≡◌, ◌<◌, ℕ, length, slice_index}
use Rattle.block_lags.proofs.counts.fill.Given as goal

abbrev pub invariant-loop-i : goal.invariant-loop-i
invariant-loop-i l = record {
  len : length l.sums ≡ length l.fn.sums;
  numbers : (i : ℕ) → i < l.i → slice_index l.sums i ≡ l.number;
}
