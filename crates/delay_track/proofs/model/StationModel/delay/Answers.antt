use Rattle.std.proofs.Common.{◌≡◌, None, Some, w64, FitsSigned, arith}
use Rattle.std.proofs.lemmas.Int.{ints, to_z-of_z}
use Rattle.corr_model.specs.Delay.{poly_at}
use Rattle.delay_track.specs.StationModel.{delay_model_of}
use Rattle.delay_track.proofs.Polynomials.{delay_at-none, delay_at-some}
use Rattle.delay_track.proofs.model.StationModel.delay.Goals as goal

pub returns-in-None-clause-value : goal.returns-in-None-clause-value
returns-in-None-clause-value c =
    let m = delay_model_of c.args.self.now in
    let none : poly_at m c.args.n ≡ None = cc in
    rw (delay_at-none m c.args.n none)

pub returns-in-Some-clause-value : goal.returns-in-Some-clause-value
returns-in-Some-clause-value c =
    let m = delay_model_of c.args.self.now in
    let some : poly_at m c.args.n ≡ Some c.in-Some.e = cc in
    let fits : FitsSigned w64 c.delay_by.result = omega (arith, ints, c.delay_by.ensures.bound) in
    rw (delay_at-some m c.args.n c.in-Some.e some, to_z-of_z w64 c.delay_by.result fits) c.delay_by.ensures.value
