use Rattle.std.proofs.Common.{◌∙◌, List, ap, get_or, arith}
use Rattle.std.proofs.Math.ListN.{set}
use Rattle.corr_model.specs.declared.cell.Cell.{Cell}
use Rattle.corr_model.specs.Cell.{no_cell}
use Rattle.job_epochs.specs.Added.{plus_wrapped}
use Rattle.job_epochs.proofs.PlacedCells.{add_cells-start, add_cells-next, add_cells-all}
use Rattle.job_epochs.proofs.added.add_cells.Goals as goal

pub loop-i-init : goal.loop-i-init
loop-i-init c = add_cells-start c.args.sums.now c.args.more.now

pub loop-i-preserved : goal.loop-i-preserved
loop-i-preserved c =
    ap (set c.loop-i.sums c.loop-i.i) c.plus_wrapped.ensures
    ∙ ap (λ (s : List Cell). set s c.loop-i.i (plus_wrapped (get_or s c.loop-i.i no_cell) (get_or c.args.more.now c.loop-i.i no_cell))) c.loop-i.invariant
    ∙ add_cells-next c.args.sums.now c.args.more.now c.loop-i.i no_cell (omega arith) (omega arith)

pub returns : goal.returns
returns c = c.loop-i.invariant ∙ add_cells-all c.args.sums.now c.args.more.now c.loop-i.i (omega arith)
