use Rattle.std.proofs.Common.{◌∙◌, arith}
use Rattle.block_lags.proofs.PairCounts.{small, sum-first}
use Rattle.block_lags.proofs.counts.sum_first.Goals as goal

pub sum_theres-requires-clause-second : goal.sum_theres-requires-clause-second
sum_theres-requires-clause-second c = small 5120 c.args.count c.requires.wide

pub returns-clause-counts : goal.returns-clause-counts
returns-clause-counts c = λ i lt.
    c.sum_theres.ensures.counts i lt ∙ sum-first 5120 c.args.count c.requires.wide c.args.first.now i (omega (arith, lt, c.requires.room))
