use Rattle.std.proofs.Common.{◌≡◌, ◌∙◌, ℤ, pos, ◌+ℤ◌, ◌-ℤ◌, unsigned_abs, w32, to_z, of_z, subst, refl, below_more, arith}
use Rattle.std.proofs.lemmas.Bool.{false≢true}
use Rattle.std.proofs.lemmas.Int.{ints}
use Rattle.fringe_search.specs.Sums.{power_at}
use Rattle.fringe_search.specs.Peaks.{Leads}
use Rattle.fringe_search.proofs.Leading.{leads_of, of_leads}
use Rattle.fringe_search.proofs.claim.leads_from.Goals as goal

pub loop-n-preserved : goal.loop-n-preserved
loop-n-preserved c =
    let power = power_at c.args.series.now c.args.grid.now.divide in
    let peak = c.args.peak.now in
    let other = c.point_from.result in
    let want : ℤ = pos c.loop-n.n -ℤ pos c.args.grid.now.rates in
    let same : to_z w32 (of_z w32 c.rate_at-rate.result) ≡ c.rate_at-rate.result = omega (arith, ints, c.rate_at-rate.ensures.rate.least, c.rate_at-rate.ensures.rate.most) in
    below_more (λ k. Leads power peak.lag peak.rate c.args.lag (pos k -ℤ pos c.args.grid.now.rates)) c.loop-n.n c.loop-n.invariant
    (leads_of power peak.power other.power peak.lag c.args.lag other.lag peak.rate other.rate want c.requires.peak.power c.point_from.ensures.point.power c.point_from.ensures.lag
    (c.point_from.ensures.rate ∙ same ∙ c.rate_at-rate.ensures.value) (c.if-not-leads.ensures.0 refl))

pub returns-then-not-leads : goal.returns-then-not-leads
returns-then-not-leads c =
    let power = power_at c.args.series.now c.args.grid.now.divide in
    let peak = c.args.peak.now in
    let other = c.point_from.result in
    let same : to_z w32 (of_z w32 c.rate_at-rate.result) ≡ c.rate_at-rate.result = omega (arith, ints, c.rate_at-rate.ensures.rate.least, c.rate_at-rate.ensures.rate.most) in
    let at_rate = c.point_from.ensures.rate ∙ same in (
      λ e. absurd (false≢true e),
      λ all. absurd (false≢true (c.if-not-leads.ensures.1
          (of_leads power peak.power other.power peak.lag c.args.lag other.lag peak.rate other.rate c.rate_at-rate.result c.requires.peak.power c.point_from.ensures.point.power c.point_from.ensures.lag at_rate
          (all c.rate_at-rate.result c.rate_at-rate.ensures.rate)))),
    )

pub returns : goal.returns
returns c =
    let rates = c.args.grid.now.rates in (
      λ _ rate q.
          let k = unsigned_abs (rate +ℤ pos rates) in
          let is : pos k -ℤ pos rates ≡ rate = omega (arith, ints, q.least, q.most) in
          subst (λ (x : ℤ). Leads (power_at c.args.series.now c.args.grid.now.divide) c.args.peak.now.lag c.args.peak.now.rate c.args.lag x) is
          (c.loop-n.invariant k (omega (arith, ints, q.least, q.most))),
      λ _. refl,
    )
