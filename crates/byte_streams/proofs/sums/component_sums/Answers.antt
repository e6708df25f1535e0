use Rattle.std.proofs.Common.{◌*◌, arith}
use Rattle.byte_streams.proofs.Bytes.{all_small, bytes_of, sum_number}
use Rattle.byte_streams.proofs.sums.component_sums.Goals as goal

pub returns-clause-numbers : goal.returns-clause-numbers
returns-clause-numbers c = λ i lt. sum_number _ _ _ _ _ (c.loop-k.invariant.done i (omega (arith, lt))) (bytes_of _ _ _ _ c.args.s.now.streams i (omega (arith, lt, c.loop-k.invariant.len)))

pub returns-clause-small : goal.returns-clause-small
returns-clause-small c =
    all_small (4 * c.args.s.now.bias) c.loop-k.out (λ k lt. omega (arith, c.loop-k.invariant.done k (omega (arith, lt)), c.args.s.now.streams.re k, c.args.s.now.streams.im k))
