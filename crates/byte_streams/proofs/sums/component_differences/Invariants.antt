-- The differences so far.
use Rattle.std.proofs.Common.{◌≡◌, ◌<◌, ◌+◌, ◌*◌, ℕ, length, slice_index}
use Rattle.byte_streams.proofs.sums.component_differences.Given as goal

abbrev pub invariant-loop-k : goal.invariant-loop-k
invariant-loop-k l = record {
  len : length l.out ≡ length l.s.there.now;
  done : (j : ℕ) → j < l.k → slice_index l.out j + slice_index l.s.im.now j ≡ slice_index l.s.re.now j + 2 * l.s.bias;
}
