use Rattle.std.proofs.Common.{arith}
use Rattle.job_join.proofs.PlansLemmas.{pairs-turn}
use Rattle.job_join.proofs.lists.add_pairs.Goals as goal

pub loop-here-preserved : goal.loop-here-preserved
loop-here-preserved c =
    pairs-turn c.args.with_itself c.args.a c.args.stands.now c.loop-here.here-index c.here-item.result c.args.pairs.now.items c.loop-here.pairs.items c.add_pair.new.pairs.items (omega arith) c.here-item.is c.loop-here.invariant c.in_ok-add_pair.ensures
