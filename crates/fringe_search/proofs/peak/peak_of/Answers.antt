use Rattle.std.proofs.Common.{◌≡◌, ◌∙◌, ap, sym, subst, ℤ, FitsSigned, rules, w32, w64, to_z, of_z, arith}
use Rattle.std.specs.Int.{w128}
use Rattle.std.proofs.lemmas.Int.{ints, to_z-of_z}
use Rattle.corr_model.specs.Lags.{lag_of}
use Rattle.fringe_search.specs.Sums.{re_at, im_at, power_at}
use Rattle.fringe_search.specs.Peaks.{IsRate, Leads}
use Rattle.fringe_search.proofs.peak.peak_of.Goals as goal

pub returns : goal.returns
returns c =
    let b = c.best_of-best.ensures.best in
    let best = c.best_of-best.result in
    let v = c.args.series.now in
    let g = c.args.grid.now in
    let rate = b.point.rate in
    let same : to_z w32 (of_z w32 best.rate) ≡ best.rate = omega (arith, ints, rate.least, rate.most, g.rates_within) in
    let re_fits : FitsSigned w64 best.sum.re = search rules in
    let im_fits : FitsSigned w64 best.sum.im = search rules in
    let re : c.from.result ≡ best.sum.re = c.from.ensures ∙ to_z-of_z w64 best.sum.re re_fits in
    let im : c.from-2.result ≡ best.sum.im = c.from-2.ensures ∙ to_z-of_z w64 best.sum.im im_fits in
    let wide : to_z w128 (of_z w128 c.from.result) ≡ c.from.result = omega (arith, ints) in
    let wide_im : to_z w128 (of_z w128 c.from-2.result) ≡ c.from-2.result = omega (arith, ints) in
    let lag_same : to_z w32 (of_z w32 c.lag_at.result) ≡ c.lag_at.result = omega (arith, ints, c.lag_at.ensures) in
    record {
      number = best.lag;
      point = record {
        within = b.point.lag;
        lag = lag_same ∙ c.lag_at.ensures ∙ ap (λ n. lag_of n best.lag) c.lags.ensures.value;
        rate = subst (λ (r : ℤ). IsRate g.rates r) (sym same) rate;
        re = wide ∙ re ∙ b.point.re ∙ ap (re_at v g.divide best.lag) (sym same);
        im = wide_im ∙ im ∙ b.point.im ∙ ap (im_at v g.divide best.lag) (sym same);
      };
      leads = λ lag rate p q. subst (λ (r : ℤ). Leads (power_at v g.divide) best.lag r lag rate) (sym same) (b.ahead.earlier lag rate (omega arith) q);
    }
