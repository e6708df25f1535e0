-- The place of the next level, and the codes so far.
use Rattle.std.proofs.Common.{◌≡◌, ◌+◌, ◌*◌, ◌<◌, ℕ, slice_index}
use Rattle.sample_unpack.specs.Level.{code_at}
use Rattle.value_codes.specs.Taken.{taken_of}
use Rattle.value_codes.proofs.take.take_each.Given as goal

abbrev pub invariant-loop-i : goal.invariant-loop-i
invariant-loop-i l = record {
  place : 8 * l.at + l.low ≡ 8 * l.byte + l.shift + l.i * l.step;
  low : l.low < 8;
  done : (k : ℕ) → k < l.i → slice_index l.codes k ≡ taken_of l.bits (code_at l.array l.bits (8 * l.byte + l.shift + k * l.step));
}
