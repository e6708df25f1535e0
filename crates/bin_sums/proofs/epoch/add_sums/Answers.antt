use Rattle.std.proofs.Common.{◌∙◌, List, ap, sym, get_or, arith}
use Rattle.std.proofs.Math.ListN.{set}
use Rattle.corr_model.specs.declared.cell.Cell.{Cell}
use Rattle.corr_model.specs.Cell.{no_cell}
use Rattle.job_epochs.specs.Added.{plus_wrapped}
use Rattle.plain_sums.proofs.AddLemmas.{none-added, cell-added}
use Rattle.bin_sums.proofs.epoch.add_sums.Goals as goal

pub loop-i-init : goal.loop-i-init
loop-i-init c = none-added c.args.cells.now

pub loop-i-preserved : goal.loop-i-preserved
loop-i-preserved c =
    ap (set c.loop-i.cells c.loop-i.i)
    (c.plus.ensures ∙ ap (plus_wrapped (get_or c.loop-i.cells c.loop-i.i no_cell)) (sym (c.cell.ensures no_cell)))
    ∙ ap (λ (cells : List Cell). set cells c.loop-i.i (plus_wrapped (get_or cells c.loop-i.i no_cell) (get_or c.args.sums.now.cells c.loop-i.i no_cell))) c.loop-i.invariant
    ∙ cell-added c.args.cells.now c.args.sums.now.cells c.loop-i.i no_cell c.loop-i-test.true (omega (arith, c.loop-i-test.true, c.requires))
