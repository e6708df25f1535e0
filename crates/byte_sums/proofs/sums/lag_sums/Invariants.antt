-- The places so far have their sums.
use Rattle.std.proofs.Common.{◌≡◌, ◌<◌, ◌*◌, ℕ, length, slice_index}
use Rattle.byte_sums.specs.Sums.{lag_sum}
use Rattle.byte_sums.proofs.sums.lag_sums.Given as goal

abbrev pub invariant-loop-q : goal.invariant-loop-q
invariant-loop-q l = record {
  len : length l.out ≡ length l.fn.out;
  done : (i : ℕ) → i < 4 * l.q → slice_index l.out i ≡ lag_sum l.a l.b i (length l.a);
}

abbrev pub invariant-loop-i : goal.invariant-loop-i
invariant-loop-i l = record {
  len : length l.out ≡ length l.fn.out;
  done : (i : ℕ) → i < l.i → slice_index l.out i ≡ lag_sum l.a l.b i (length l.a);
}
