use Rattle.std.proofs.Common.{arith}
use Rattle.job_join.proofs.PlansLemmas.{firsts-turn}
use Rattle.job_join.proofs.lists.pairs_in.Goals as goal

pub loop-here-preserved : goal.loop-here-preserved
loop-here-preserved c =
    firsts-turn c.args.with_itself c.args.stands.now c.loop-here.here-index c.here-item.result c.loop-here.pairs.items c.add_pairs.new.pairs.items (omega arith) c.here-item.is c.loop-here.invariant c.in_ok-add_pairs.ensures
