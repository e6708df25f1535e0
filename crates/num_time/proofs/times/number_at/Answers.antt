use Rattle.std.proofs.Common.{arith}
use Rattle.num_time.specs.Times.{digits_at, number_at}
use Rattle.num_time.proofs.TimeLemmas.{number_at-lt, read_four}
use Rattle.num_time.proofs.times.number_at.Goals as goal

pub number_after-requires : goal.number_after-requires
unfolding digits_at
number_after-requires c = c.requires.digits

pub overflow_cast-result : goal.overflow_cast-result
unfolding number_at
overflow_cast-result c =
    let less = number_at-lt c.args.text.now c.args.a c.args.b c.requires.order c.requires.inside c.requires.digits in
    let four = read_four c.number_after.result _ _ c.number_after.ensures less c.requires.few in
    omega (arith, four.1)

pub returns-clause-value : goal.returns-clause-value
unfolding number_at
returns-clause-value c =
    let less = number_at-lt c.args.text.now c.args.a c.args.b c.requires.order c.requires.inside c.requires.digits in
    (read_four c.number_after.result _ _ c.number_after.ensures less c.requires.few).0

pub returns-clause-bound : goal.returns-clause-bound
unfolding number_at
returns-clause-bound c =
    let less = number_at-lt c.args.text.now c.args.a c.args.b c.requires.order c.requires.inside c.requires.digits in
    let four = read_four c.number_after.result _ _ c.number_after.ensures less c.requires.few in
    omega (arith, four.0, less)
