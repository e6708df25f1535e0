-- The codes from place i on are packed.
use Rattle.std.proofs.Common.{◌≡◌, drop}
use Rattle.sample_unpack.specs.Packed.{packed}
use Rattle.sample_unpack.proofs.packing.packed.Given as goal

abbrev pub invariant-loop-i : goal.invariant-loop-i
invariant-loop-i l = l.byte ≡ packed l.bits (drop l.i l.codes)
