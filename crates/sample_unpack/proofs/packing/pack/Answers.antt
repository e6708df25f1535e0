use Rattle.std.proofs.Common.{arith}
use Rattle.sample_unpack.proofs.PackedLemmas.{codes-packed}
use Rattle.sample_unpack.proofs.packing.pack.Goals as goal

pub returns-clause-codes : goal.returns-clause-codes
returns-clause-codes c =
    codes-packed c.args.bits c.from-per_byte.result c.loop-k.out c.args.codes.now c.requires.width (record { below = c.requires.codes })
    (omega (arith, c.requires.room, c.loop-k.auto.out)) c.from-per_byte.ensures
    (λ k lt. c.loop-k.invariant k (omega (arith, lt, c.loop-k-test.false, c.loop-k.auto.out)))
