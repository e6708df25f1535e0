use Rattle.std.proofs.Common.{◌≡◌, ◌∙◌, ap, sym, subst, w32, to_z, of_z, arith}
use Rattle.std.proofs.lemmas.Int.{ints}
use Rattle.corr_model.specs.Lags.{lag_of}
use Rattle.fringe_search.specs.Layout.{Series}
use Rattle.fringe_search.specs.Peaks.{IsSmall}
use Rattle.fringe_search.proofs.Putting.{series_put}
use Rattle.fringe_search.proofs.write.put_series.Goals as goal

pub best_of-peak-requires : goal.best_of-peak-requires
best_of-peak-requires g c = record { small = subst (λ (s : Series). IsSmall s) (sym c.of-series.ensures) (c.requires.small c.args.at c.requires.at) }

pub put_lags-requires : goal.put_lags-requires
put_lags-requires g c = subst (λ (s : Series). IsSmall s) (sym c.of-series.ensures) (c.requires.small c.args.at c.requires.at)

pub returns : goal.returns
returns g c =
    let same : to_z w32 (of_z w32 c.lag_at.result) ≡ c.lag_at.result = omega (arith, ints, c.lag_at.ensures, c.lags.ensures.few) in
    series_put c.args.vis.now c.args.grid.now c.args.at c.of-series.result c.best_of-peak.result _ c.of-series.ensures c.best_of-peak.ensures.best
    (same ∙ c.lag_at.ensures ∙ ap (λ n. lag_of n c.best_of-peak.result.lag) c.lags.ensures.value) c.put_peak.ensures c.put_lags.ensures
