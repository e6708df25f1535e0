use Rattle.std.proofs.Common.{w64, FitsSigned, arith}
use Rattle.std.proofs.lemmas.Int.{ints}
use Rattle.corr_model.specs.Delay.{knot_delay}
use Rattle.delay_track.proofs.model.StationModel.knot_delay.Goals as goal

pub returns-clause-value : goal.returns-clause-value
unfolding knot_delay
returns-clause-value c =
    let poly : FitsSigned w64 c.poly_value.result = omega (arith, ints, c.poly_value.ensures.bound) in
    let clock : FitsSigned w64 c.clock_at_knot.result = omega (arith, ints, c.clock_at_knot.ensures.bound) in
    rw (← c.poly_value.ensures.value, ← c.clock_at_knot.ensures.value)
    (omega (arith, ints, c.poly_value.ensures.bound, c.clock_at_knot.ensures.bound))
