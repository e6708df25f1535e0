use Rattle.std.proofs.Common.{◌≡◌, ◌++◌, ℤ, ◌∙◌, w32, to_z, of_z, ap, ap₂, sym, subst, arith, append_assoc}
use Rattle.std.proofs.lemmas.Int.{to_z-of_z}
use Rattle.corr_model.specs.Lags.{lag_of}
use Rattle.fringe_search.specs.Peaks.{IsRate}
use Rattle.fringe_search.specs.Certificates.{place_text, peak_text, sums_text}
use Rattle.fringe_search.proofs.TakenLines.{lag_in, rate_in, signed_rest, number_one, sums_one, peak_made}
use Rattle.fringe_search.proofs.read.take_peak.Goals as goal

pub returns-in_err-words : goal.returns-in_err-words
returns-in_err-words c = rw c.from_residual.ensures (λ p n rest h e. c.in_err-words.ensures (peak_text p ++ rest) (e ∙ append_assoc (place_text c.args.at) (peak_text p) rest))

pub returns-in_err-lag : goal.returns-in_err-lag
returns-in_err-lag c = rw c.from_residual-in_err-lag.ensures (λ p n rest h e.
    let few = c.lags-lags.ensures.few in
    c.in_err-lag.ensures.taken p.lag _ (lag_in c.args.series.now c.args.grid.now c.args.at p n c.args.text.now c.in_ok-words.words.now rest few h c.in_ok-words.ensures e))

pub returns-in_err-rate : goal.returns-in_err-rate
returns-in_err-rate c = rw c.from_residual-in_err-rate.ensures (λ p n rest h e.
    c.in_err-rate.ensures.taken p.rate _ (rate_in c.args.series.now c.args.grid.now c.args.at p n c.in_ok-lag.lag c.args.text.now c.in_ok-words.words.now c.in_ok-lag.later.now rest c.lags-lags.ensures.few h c.in_ok-words.ensures e c.in_ok-lag.ensures.taken c.in_ok-lag.ensures.one))

pub returns-in_err-number : goal.returns-in_err-number
returns-in_err-number c = rw c.from_residual-in_err-number.ensures (λ p n rest h e.
    let few = c.lags-lags.ensures.few in
    let s = c.args.series.now in
    let lag = c.in_ok-lag.ensures.one p.lag _ (lag_in s c.args.grid.now c.args.at p n c.args.text.now c.in_ok-words.words.now rest few h c.in_ok-words.ensures e) in
    let same : to_z w32 (of_z w32 c.in_ok-lag.lag) ≡ c.in_ok-lag.lag = to_z-of_z w32 c.in_ok-lag.lag c.in_ok-lag.ensures.taken.within in
    let lags = c.lags-lags.ensures.value in
    c.in_err-number.ensures n (omega (arith, h.within, lags)) (same ∙ sym lag ∙ h.lag ∙ ap (λ k. lag_of k n) (sym lags)))

pub returns-in_err-point : goal.returns-in_err-point
returns-in_err-point c = rw c.from_residual-in_err-point.ensures (λ p n rest h e.
    let rate = c.in_ok-rate.ensures.one p.rate _ (rate_in c.args.series.now c.args.grid.now c.args.at p n c.in_ok-lag.lag c.args.text.now c.in_ok-words.words.now c.in_ok-lag.later.now rest c.lags-lags.ensures.few h c.in_ok-words.ensures e c.in_ok-lag.ensures.taken c.in_ok-lag.ensures.one) in
    let same : to_z w32 (of_z w32 c.in_ok-rate.rate) ≡ c.in_ok-rate.rate = to_z-of_z w32 c.in_ok-rate.rate c.in_ok-rate.ensures.taken.within in
    c.in_err-point.ensures (subst (λ (z : ℤ). IsRate c.args.grid.now.rates z) (rate ∙ sym same) h.rate))

pub returns-in_err-rest : goal.returns-in_err-rest
returns-in_err-rest c = rw c.from_residual-in_err-rest.ensures (λ p n rest h e.
    let few = c.lags-lags.ensures.few in
    let s = c.args.series.now in
    let g = c.args.grid.now in
    let text = c.args.text.now in
    let words = c.in_ok-words.words.now in
    let q = c.in_ok-point.point in
    let lag = c.in_ok-lag.ensures.one p.lag _ (lag_in s g c.args.at p n text words rest few h c.in_ok-words.ensures e) in
    let r = rate_in s g c.args.at p n c.in_ok-lag.lag text words c.in_ok-lag.later.now rest few h c.in_ok-words.ensures e c.in_ok-lag.ensures.taken c.in_ok-lag.ensures.one in
    let rate = c.in_ok-rate.ensures.one p.rate _ r in
    let lag_same : to_z w32 (of_z w32 c.in_ok-lag.lag) ≡ c.in_ok-lag.lag = to_z-of_z w32 c.in_ok-lag.lag c.in_ok-lag.ensures.taken.within in
    let rate_same : to_z w32 (of_z w32 c.in_ok-rate.rate) ≡ c.in_ok-rate.rate = to_z-of_z w32 c.in_ok-rate.rate c.in_ok-rate.ensures.taken.within in
    let at = c.in_ok-point.ensures in
    let number : n ≡ c.in_ok-number.number = number_one s.lags n c.in_ok-number.number p.lag c.in_ok-lag.lag h.lag
    (sym lag_same ∙ c.in_ok-number.ensures.1 ∙ ap (λ k. lag_of k c.in_ok-number.number) c.lags-lags.ensures.value) lag in
    let sums = sums_one s g p n q h at.point (number ∙ sym at.lag_is) (rate ∙ sym (at.rate_is ∙ rate_same)) in
    let behind = signed_rest c.in_ok-rate.rate p.rate 32 c.in_ok-lag.later.now c.in_ok-rate.sums.now (sums_text p.re p.im ++ rest) c.in_ok-rate.ensures.taken r rate in
    c.in_err-rest.ensures rest (behind ∙ ap (λ t. t ++ rest) sums))

pub returns : goal.returns
returns c =
    let s = c.args.series.now in
    let lag_same : to_z w32 (of_z w32 c.in_ok-lag.lag) ≡ c.in_ok-lag.lag = to_z-of_z w32 c.in_ok-lag.lag c.in_ok-lag.ensures.taken.within in
    let rate_same : to_z w32 (of_z w32 c.in_ok-rate.rate) ≡ c.in_ok-rate.rate = to_z-of_z w32 c.in_ok-rate.rate c.in_ok-rate.ensures.taken.within in
    let at = c.in_ok-point.ensures in
    let lag : c.in_ok-lag.lag ≡ lag_of s.lags c.in_ok-point.point.lag =
    sym lag_same ∙ c.in_ok-number.ensures.1 ∙ ap₂ lag_of c.lags-lags.ensures.value (sym at.lag_is) in
    peak_made s c.args.grid.now c.args.at c.in_ok-point.point c.in_ok-lag.lag c.in_ok-rate.rate c.args.text.now c.in_ok-words.words.now c.in_ok-lag.later.now c.in_ok-rate.sums.now c.in_ok-rest.rest.now
    c.in_ok-words.ensures
    c.in_ok-lag.ensures.taken
    c.in_ok-rate.ensures.taken
    at.point
    lag
    (at.rate_is ∙ rate_same)
    c.in_ok-rest.ensures
