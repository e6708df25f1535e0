-- The samples so far are those of the channel.
use Rattle.std.proofs.Common.{◌≡◌, ◌<◌, ℕ, pos, slice_index_or}
use Rattle.sample_unpack.specs.Level.{level_at}
use Rattle.sample_unpack.proofs.samples.unpack.Given as goal

abbrev pub invariant-loop-i : goal.invariant-loop-i
invariant-loop-i l = (k : ℕ) → k < l.i → slice_index_or l.out k (pos 0) ≡ level_at l.bytes l.bits l.chans l.chan k
