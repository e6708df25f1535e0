use Rattle.std.proofs.Common.{◌*◌, ◌+◌, length, sym, subst, ◌∙◌, ap}
use Rattle.corr_model.specs.Records.{Head}
use Rattle.fringe_search.specs.Layout.{Series, IsWithin, scan_at, integrations_of, records_each}
use Rattle.fringe_search.proofs.Counting.{series_made, series_good}
use Rattle.fringe_search.proofs.series.CellSeries.of.Goals as goal

pub returns : goal.returns
returns c =
    let at = c.args.at in
    let same = c.head-head.ensures.head in
    series_made c.args.vis.now at c.cells_from-cells.result.now c.first_place-first.result c.stride-stride.result c.integrations-integrations.result
    c.lags-lags.result c.cells_from-cells.ensures
    (c.first_place-first.ensures ∙ ap (λ (h : Head). h.lags * (at.product * length (scan_at h at.scan).baselines + at.baseline)) same)
    (c.stride-stride.ensures ∙ ap (λ (h : Head). h.lags * records_each h (scan_at h at.scan)) same)
    (c.integrations-integrations.ensures.value ∙ ap (λ (h : Head). integrations_of h (scan_at h at.scan)) same)
    (c.lags-lags.ensures ∙ ap (λ (h : Head). h.lags) same)

pub invariant_of-result : goal.invariant_of-result
invariant_of-result c =
    let at = c.args.at in
    let same = c.head-head.ensures.head in
    let made =
    series_made c.args.vis.now at c.cells_from-cells.result.now c.first_place-first.result c.stride-stride.result c.integrations-integrations.result
    c.lags-lags.result c.cells_from-cells.ensures
    (c.first_place-first.ensures ∙ ap (λ (h : Head). h.lags * (at.product * length (scan_at h at.scan).baselines + at.baseline)) same)
    (c.stride-stride.ensures ∙ ap (λ (h : Head). h.lags * records_each h (scan_at h at.scan)) same)
    (c.integrations-integrations.ensures.value ∙ ap (λ (h : Head). integrations_of h (scan_at h at.scan)) same)
    (c.lags-lags.ensures ∙ ap (λ (h : Head). h.lags) same) in
    subst (λ (s : Series). IsWithin s) (sym made) (series_good c.args.vis.now at c.head-head.ensures.vis c.requires)
