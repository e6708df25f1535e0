-- The codes of the vectors so far.
use Rattle.std.proofs.Common.{◌≡◌, ◌+◌, ◌*◌, ◌<◌, ℕ, slice_index}
use Rattle.sample_unpack.specs.Level.{code_at}
use Rattle.value_codes.specs.Taken.{taken_of}
use Rattle.value_codes.proofs.take.take_vectors.Given as goal

abbrev pub invariant-loop-v : goal.invariant-loop-v
invariant-loop-v l = (i : ℕ) → i < l.levels * l.v → slice_index l.codes i ≡ taken_of l.bits (code_at l.array l.bits (8 * l.byte + l.low + i * l.step))
