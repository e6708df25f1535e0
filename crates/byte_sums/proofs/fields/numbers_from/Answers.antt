use Rattle.std.proofs.Common.{◌<◌, arith}
use Rattle.std.proofs.lemmas.Simd.{length-chunk, get_or-chunk, Each1-chunk, Each1-from_get_or}
use Rattle.byte_sums.proofs.fields.numbers_from.Goals as goal

pub returns-clause-len : goal.returns-clause-len
returns-clause-len c = length-chunk c.args.from 32 c.args.numbers.now c.requires.room

pub returns-clause-lanes : goal.returns-clause-lanes
returns-clause-lanes c = λ k lt. get_or-chunk c.args.from 32 c.args.numbers.now k 0 lt

pub returns-clause-small : goal.returns-clause-small
returns-clause-small c = Each1-chunk (λ x. x < 65) c.args.from 32 c.args.numbers.now (Each1-from_get_or (λ x. x < 65) c.args.numbers.now 0 (λ i _. omega (arith, c.requires.small i)))
