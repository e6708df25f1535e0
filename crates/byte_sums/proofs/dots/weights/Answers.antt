use Rattle.std.proofs.lemmas.Simd.{length-chunk}
use Rattle.byte_sums.proofs.Weights.{weights_of_chunk}
use Rattle.byte_sums.proofs.dots.weights.Goals as goal

pub returns-clause-len : goal.returns-clause-len
returns-clause-len c = length-chunk c.args.at 32 c.args.a.now c.requires.room

pub returns-clause-weights : goal.returns-clause-weights
returns-clause-weights c = weights_of_chunk c.args.a.now c.requires.weights c.args.at 32
