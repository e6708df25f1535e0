use Rattle.std.proofs.lemmas.Simd.{length-chunk}
use Rattle.byte_sums.proofs.Small.{chunk-small}
use Rattle.byte_sums.proofs.shorts.small_bytes.Goals as goal

pub returns-clause-len : goal.returns-clause-len
returns-clause-len c = length-chunk c.args.at 32 c.args.bytes.now c.requires.room

pub returns-clause-small : goal.returns-clause-small
returns-clause-small c = chunk-small c.args.bytes.now c.requires.small c.args.at 32
