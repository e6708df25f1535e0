use Rattle.std.proofs.Common.{◌≡◌, ◌-◌, ◌<◌, false, rules, sym, ◌∙◌, arith}
use Rattle.delay_track.proofs.AllSamples.{all_from_each, fails_from_one}
use Rattle.job_join.specs.Reach.{reach_model}
use Rattle.job_join.specs.Needs.{is_met}
use Rattle.job_join.proofs.reach.Reach.are_met.Goals as goal

pub returns-then-not-is_met : goal.returns-then-not-is_met
returns-then-not-is_met c =
    let m = reach_model c.args.self.now in
    let inside : c.loop-end.end - 1 < c.args.samples = omega (arith, c.loop-end.invariant.within) in
    let not_met : c.is_met.result ≡ false = search rules in
    sym (fails_from_one (is_met c.args.need m) c.args.samples (c.loop-end.end - 1) inside (sym c.is_met.ensures ∙ not_met))

pub returns : goal.returns
returns c =
    let m = reach_model c.args.self.now in
    sym (all_from_each (is_met c.args.need m) c.args.samples (λ i inside. c.loop-end.invariant.behind i (omega arith) inside))
