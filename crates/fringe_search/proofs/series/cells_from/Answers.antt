use Rattle.std.proofs.Common.{◌*◌, ◌≤◌, length, ap, sym, subst, ◌∙◌, arith}
use Rattle.corr_model.specs.Records.{Head}
use Rattle.fringe_search.specs.Layout.{records_before}
use Rattle.fringe_search.proofs.Counting.{cells_counted}
use Rattle.fringe_search.proofs.series.cells_from.Goals as goal

pub start_of-start-requires-clause-some : goal.start_of-start-requires-clause-some
start_of-start-requires-clause-some c =
    subst (λ (h : Head). 1 ≤ h.lags) (sym c.head.ensures.head) (omega (arith, c.cells-cells.ensures.vis.head_is.some_lags))

pub start_of-start-requires-clause-count : goal.start_of-start-requires-clause-count
start_of-start-requires-clause-count c =
    ap length c.cells-cells.ensures.cells ∙ cells_counted c.args.vis.now c.cells-cells.ensures.vis
    ∙ ap (λ (h : Head). h.lags * records_before h (length h.scans)) (sym c.head.ensures.head)
