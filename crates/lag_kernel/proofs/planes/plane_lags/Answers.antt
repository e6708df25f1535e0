use Rattle.std.proofs.Common.{map, length, ◌∙◌}
use Rattle.std.specs.List.{range_with_len}
use Rattle.corr_model.specs.Lags.{lag_of}
use Rattle.lag_kernel.proofs.RowLemmas.{rows-planes}
use Rattle.lag_kernel.proofs.planes.plane_lags.Goals as goal

pub row_lags-requires-clause-range : goal.row_lags-requires-clause-range
row_lags-requires-clause-range c = record { order = c.requires.order; inside = c.requires.inside; scan = c.requires.scan; most = c.requires.range }

pub returns : goal.returns
returns c =
    let x = c.args in
    let lags = length x.out.now in
    c.row_lags.ensures
    ∙ (λ t. map (λ i. rows-planes c.row_of.result c.row_of-2.result x.a.now x.b.now c.row_of.ensures.values c.row_of-2.ensures.values x.samples (lag_of lags i) x.from x.to t) (range_with_len 0 lags))
