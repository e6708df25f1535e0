use Rattle.std.proofs.Common.{sym, ap, ◌∙◌}
use Rattle.job_join.specs.declared.reach.Need.{Need}
use Rattle.job_join.specs.Reach.{reach_model}
use Rattle.job_join.specs.Needs.{is_met}
use Rattle.delay_track.proofs.Polynomials.{is_modelled-late}
use Rattle.job_join.proofs.ReachLemmas.{is_clocked-late}
use Rattle.job_join.proofs.reach.Reach.is_met_without.Goals as goal

pub returns-in-Delay : goal.returns-in-Delay
returns-in-Delay c =
    let m = reach_model c.args.self.now in
    sym (ap (λ (need : Need). is_met need m c.args.n) c.in-Delay.is ∙ is_modelled-late m c.args.n c.requires)

pub returns-in-Clock : goal.returns-in-Clock
returns-in-Clock c =
    let m = reach_model c.args.self.now in
    sym (ap (λ (need : Need). is_met need m c.args.n) c.in-Clock.is ∙ is_clocked-late m c.args.n c.requires)
