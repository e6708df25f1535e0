use Rattle.std.proofs.Common.{arith}
use Rattle.job_join.proofs.MeasuresLemmas.{length-firsts}
use Rattle.job_join.proofs.measures.count_in.Goals as goal

pub loop-here-preserved : goal.loop-here-preserved
loop-here-preserved c =
    (length-firsts c.args.with_itself c.args.stands.now c.loop-here.here-index c.here-item.result c.loop-here.count c.count_with-count.result (omega arith) c.here-item.is c.loop-here.invariant.0 c.count_with-count.ensures.count, omega (arith, c.count_with-count.ensures.most))
