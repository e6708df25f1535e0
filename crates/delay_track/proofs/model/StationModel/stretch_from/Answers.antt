use Rattle.std.proofs.Common.{◌≡◌, true, None, Some, sym, ◌∙◌}
use Rattle.std.proofs.lemmas.Bool.{false≢true}
use Rattle.corr_model.specs.Delay.{poly_at, is_modelled}
use Rattle.delay_track.specs.StationModel.{delay_model_of}
use Rattle.delay_track.proofs.Polynomials.{is_modelled-late}
use Rattle.delay_track.proofs.Stretches.{is_modelled-before}
use Rattle.delay_track.proofs.model.StationModel.stretch_from.Goals as goal

pub returns-in_err-e-clause-some : goal.returns-in_err-e-clause-some
returns-in_err-e-clause-some c =
    let m = delay_model_of c.args.self.now in
    let none : poly_at m c.args.n ≡ None = sym c.poly_at.ensures ∙ c.in_err-e.was in
    let late = is_modelled-late m c.args.n none in
    rw c.from_residual.ensures ((λ some. absurd (false≢true some)), (λ modelled. absurd (false≢true (sym late ∙ modelled))))

pub returns-then-reaches-clause-stretch : goal.returns-then-reaches-clause-stretch
returns-then-reaches-clause-stretch c =
    let m = delay_model_of c.args.self.now in
    let there : poly_at m c.args.n ≡ Some c.in_ok-e.e = sym c.poly_at.ensures ∙ c.in_ok-e.was in
    let modelled : is_modelled m c.args.n ≡ true = sym c.reaches.ensures ∙ c.if-reaches.true in
    λ i begun order.
    is_modelled-before m c.args.self.now.samples i c.args.n c.in_ok-e.e c.args.self.now.is_model order (c.first_sample.ensures.begun i begun) there modelled
