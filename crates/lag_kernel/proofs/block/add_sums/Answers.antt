use Rattle.std.proofs.Common.{length, get_or, ap, ◌∙◌, arith}
use Rattle.corr_model.specs.Cell.{cell_plus}
use Rattle.lag_kernel.proofs.PartsLemmas.{parts_sum-pairs}
use Rattle.lag_kernel.proofs.block.add_sums.Goals as goal

pub returns-clause-adds : goal.returns-clause-adds
returns-clause-adds c = λ k d h.
    let n = length c.args.first.now in
    c.loop-i.invariant.done k d (omega arith)
    ∙ ap (cell_plus (get_or c.args.out.now k d))
    (parts_sum-pairs c.args.first.now c.args.second.now c.of-a.result c.of-b.result k n n c.of-a.ensures c.of-b.ensures (omega arith))
