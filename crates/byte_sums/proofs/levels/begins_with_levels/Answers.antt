use Rattle.std.proofs.Common.{get_or}
use Rattle.byte_sums.proofs.Evens.{levels-more}
use Rattle.byte_sums.proofs.levels.begins_with_levels.Goals as goal

pub loop-k-preserved : goal.loop-k-preserved
loop-k-preserved c = levels-more c.loop-k.bits c.loop-k.k (λ k. get_or c.args.bytes.now k 0) (c.type_inv.bytes c.loop-k.k).fits c.loop-k.invariant
