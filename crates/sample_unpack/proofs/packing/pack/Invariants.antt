-- The codes of the bytes so far are packed.
use Rattle.std.proofs.Common.{◌≡◌, ◌<◌, ◌*◌, ℕ, slice_index, drop, take}
use Rattle.sample_unpack.specs.Packed.{packed}
use Rattle.sample_unpack.proofs.packing.pack.Given as goal

abbrev pub invariant-loop-k : goal.invariant-loop-k
invariant-loop-k l =
    (i : ℕ) → i < l.k → slice_index l.out i ≡ packed l.bits (take l.per_byte (drop (i * l.per_byte) l.codes))
