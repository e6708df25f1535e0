use Rattle.std.proofs.Common.{w64, FitsSigned, arith}
use Rattle.std.proofs.lemmas.Int.{ints, to_z-of_z}
use Rattle.corr_model.specs.Delay.{delay_by}
use Rattle.delay_track.proofs.model.StationModel.delay_by.Goals as goal

pub returns-clause-value : goal.returns-clause-value
unfolding delay_by
returns-clause-value c =
    let fits : FitsSigned w64 c.delay.result = omega (arith, ints, c.delay.ensures.bound) in
    let line = c.line_about.ensures in
    rw (to_z-of_z w64 c.delay.result fits) (rw (line.first, line.next, line.knot, c.past_knot.ensures.value) at c.delay.ensures.value)
