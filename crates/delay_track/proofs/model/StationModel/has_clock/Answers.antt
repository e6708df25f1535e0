use Rattle.std.proofs.Common.{rules, ◌≡◌, ◌<◌, [], None, Some, is_some, sym, ap, ◌∙◌, arith}
use Rattle.std.proofs.lemmas.Option.{none-some}
use Rattle.corr_model.specs.Delay.{poly_at, is_modelled}
use Rattle.delay_track.specs.StationModel.{delay_model_of}
use Rattle.delay_track.proofs.AllSamples.{each_from_all}
use Rattle.delay_track.proofs.Polynomials.{modelled_poly}
use Rattle.delay_track.proofs.Clocks.{has_clock-first, has_clock-empty, has_clock-none}
use Rattle.delay_track.proofs.model.StationModel.has_clock.Goals as goal
use Rattle.delay_track.proofs.model.StationModel.has_clock.Goals.{then-self-eq0-via-then-self-eq0, then-self-eq0-via-else-self-eq0+then-is_empty}

pub returns-then-self-eq0 : goal.returns-then-self-eq0
returns-then-self-eq0 c =
    let m = delay_model_of c.args.self.now in
    elim c.then-self-eq0.branch [
      | then-self-eq0-via-then-self-eq0 w ↦ sym (has_clock-empty m c.args.self.now.samples w.if-self-eq0.true)
      | then-self-eq0-via-else-self-eq0+then-is_empty w ↦
          let none : m.clocks ≡ [] = search rules in
          sym (has_clock-none m c.args.self.now.samples none)
    ]

pub returns-in-None : goal.returns-in-None
returns-in-None c =
    let m = delay_model_of c.args.self.now in
    let some : 0 < c.args.self.now.samples = omega arith in
    let none : poly_at m 0 ≡ None = sym c.poly_at.ensures ∙ c.in-None.is in
    let first = modelled_poly m 0 (each_from_all (is_modelled m) c.args.self.now.samples 0 c.requires some) in
    absurd (none-some first.0 (sym none ∙ first.1))

pub returns-in-Some : goal.returns-in-Some
returns-in-Some c =
    let m = delay_model_of c.args.self.now in
    let entries : m.clocks ≡ [] → ⊥ = search rules in
    let some : 0 < c.args.self.now.samples = omega arith in
    let first : poly_at m 0 ≡ Some c.in-Some.e = sym c.poly_at.ensures ∙ c.in-Some.is in
    c.is_some.ensures ∙ ap is_some c.clock_for.ensures ∙ sym (has_clock-first m c.args.self.now.samples c.in-Some.e c.args.self.now.is_model c.requires some entries first)
