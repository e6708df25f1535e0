use Rattle.std.proofs.Common.{◌∷◌, ◌+◌, ap, subst, sym, arith}
use Rattle.fringe_search.specs.Layout.{Series}
use Rattle.fringe_search.specs.Peaks.{IsSmall}
use Rattle.fringe_search.specs.Certificates.{Due, AtPeak, from_lag}
use Rattle.fringe_search.specs.Fronts.{IsRead}
use Rattle.fringe_search.proofs.Lines.{read_then}
use Rattle.fringe_search.proofs.Reading.{claim_of, read_peak, no_peak, read_lag, no_lag, peak_due, lags_of}
use Rattle.fringe_search.proofs.check.check_series.Goals as goal

pub take_peak-requires : goal.take_peak-requires
take_peak-requires c = subst (λ (s : Series). IsSmall s) (sym c.of-series.ensures) (c.requires.small c.args.at c.requires.at)

pub returns-in_default-clause-stopped : goal.returns-in_default-clause-stopped
returns-in_default-clause-stopped c = λ left. no_peak c.args.vis.now c.args.grid.now c.args.at left c.of-series.result c.args.text.now c.of-series.ensures c.in_default.ensures

pub loop-lag-init : goal.loop-lag-init
loop-lag-init c = λ left. read_peak c.args.vis.now c.args.grid.now c.args.at left c.of-series.result c.in-Some.peak c.args.text.now c.in-Some.behind.now c.of-series.ensures c.in-Some.ensures

pub take_lag-requires-clause-small : goal.take_lag-requires-clause-small
take_lag-requires-clause-small c = subst (λ (s : Series). IsSmall s) (sym c.of-series.ensures) (c.requires.small c.args.at c.requires.at)

pub returns-in_default-take_lag-clause-stopped : goal.returns-in_default-take_lag-clause-stopped
returns-in_default-take_lag-clause-stopped c = λ left.
    no_lag c.args.vis.now c.args.grid.now c.args.at left c.of-series.result c.in-Some.peak c.loop-lag.lag c.args.text.now c.loop-lag.rest.now c.of-series.ensures (omega arith) (c.loop-lag.invariant left) c.in_default-take_lag.ensures

pub loop-lag-preserved : goal.loop-lag-preserved
loop-lag-preserved c = λ left.
    let v = c.args.vis.now in
    let k = claim_of c.args.grid.now c.args.at c.in-Some.peak in
    read_then v (AtPeak c.args.grid.now (c.args.at ∷ left)) (from_lag v.head.lags k c.loop-lag.lag left) (from_lag v.head.lags k (c.loop-lag.lag + 1) left) c.args.text.now c.loop-lag.rest.now c.in-Some-take_lag.behind.now (c.loop-lag.invariant left)
    (read_lag v c.args.grid.now c.args.at left c.of-series.result c.in-Some.peak c.loop-lag.lag c.loop-lag.rest.now c.in-Some-take_lag.behind.now c.of-series.ensures (omega arith) c.in-Some-take_lag.ensures)

pub returns-clause-read : goal.returns-clause-read
returns-clause-read c = λ left.
    let v = c.args.vis.now in
    let k = claim_of c.args.grid.now c.args.at c.in-Some.peak in
    subst (λ (d : Due). IsRead v (AtPeak c.args.grid.now (c.args.at ∷ left)) c.args.text.now d c.loop-lag.rest.now) (peak_due v.head.lags k c.loop-lag.lag left (omega (arith, c.lags-lag-end.ensures.value, ap (λ (x : Series). x.lags) c.of-series.ensures, lags_of v c.args.at))) (c.loop-lag.invariant left)
