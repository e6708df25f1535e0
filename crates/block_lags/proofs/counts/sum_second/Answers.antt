use Rattle.std.proofs.Common.{◌∙◌}
use Rattle.block_lags.proofs.PairCounts.{small, sum-second}
use Rattle.block_lags.proofs.counts.sum_second.Goals as goal

pub sum_theres-requires-clause-first : goal.sum_theres-requires-clause-first
sum_theres-requires-clause-first c = small 4096 c.args.count c.requires.size

pub returns-clause-counts : goal.returns-clause-counts
returns-clause-counts c = λ i lt.
    c.sum_theres.ensures.counts i lt ∙ sum-second 4096 c.args.count c.requires.size c.args.second.now i
