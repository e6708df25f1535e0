use Rattle.std.proofs.Common.{◌≡◌, ◌+◌, ◌-◌, ◌<◌, Some, ◌∙◌, arith}
use Rattle.corr_model.specs.Delay.{poly_at, past_knot}
use Rattle.delay_track.specs.StationModel.{delay_model_of}
use Rattle.delay_track.proofs.Pieces.{delay_at-piece}
use Rattle.delay_track.proofs.model.StationModel.piece_by.Goals as goal

pub returns-clause-line : goal.returns-clause-line
returns-clause-line c =
    let m = delay_model_of c.args.self.now in
    let line = c.line_about.ensures in
    λ i order inside.
    let near : past_knot m c.args.e.now c.args.n + (i - c.args.n) < m.knot = omega (arith, inside, order, c.past_knot-past.ensures.value, c.past_knot-past.ensures.within, c.min.ensures) in
    let there : poly_at m i ≡ Some c.args.e.now = c.poly_end.ensures.same i order (omega (arith, inside, c.min.ensures)) ∙ c.requires.poly in
    rw (line.first, line.next, line.knot, c.past_knot-past.ensures.value)
    (delay_at-piece m c.args.self.now.samples c.args.n i c.args.e.now c.args.self.now.is_model order near c.requires.poly there)
