use Rattle.std.proofs.Common.{arith}
use Rattle.sample_unpack.proofs.PackedLemmas.{packed-fits}
use Rattle.sample_unpack.proofs.packing.packed.Goals as goal

pub overflow_mul-byte : goal.overflow_mul-byte
overflow_mul-byte c =
    omega (arith, packed-fits c.args.bits c.loop-i.i c.loop-i.byte c.args.codes.now c.requires.width (record { below = c.requires.codes }) c.requires.full c.loop-i-test.true c.loop-i.auto.i c.loop-i.invariant)

pub overflow_add-byte : goal.overflow_add-byte
overflow_add-byte c =
    omega (arith, packed-fits c.args.bits c.loop-i.i c.loop-i.byte c.args.codes.now c.requires.width (record { below = c.requires.codes }) c.requires.full c.loop-i-test.true c.loop-i.auto.i c.loop-i.invariant)
