use Rattle.std.proofs.Common.{length, refl, ◌∙◌, arith}
use Rattle.block_lags.proofs.PairCounts.{all-count}
use Rattle.block_lags.proofs.counts.sum_theres.Goals as goal

pub returns-then-are_all-2-clause-counts : goal.returns-then-are_all-2-clause-counts
returns-then-are_all-2-clause-counts c = λ i lt.
    let a = c.args.first.now in
    let b = c.args.second.now in
    c.fill.ensures.numbers i lt
    ∙ all-count a b i (length a) refl (omega (arith, lt, c.requires.room)) (c.are_all.ensures c.if-are_all.true) (c.are_all-then-are_all.ensures c.if-are_all-2.true)
