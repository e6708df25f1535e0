use Rattle.std.proofs.Common.{◌+◌, arith}
use Rattle.std.proofs.Math.Nat.{div-le_self}
use Rattle.corr_model.specs.Delay.{knot_before}
use Rattle.delay_track.specs.StationModel.{delay_model_of}
use Rattle.delay_track.proofs.Polynomials.{IsBegun-poly_at}
use Rattle.delay_track.proofs.Samples.{samples_since-small}
use Rattle.delay_track.proofs.Knots.{IsKnot-at}
use Rattle.delay_track.proofs.model.StationModel.line_about.Goals as goal

pub knot_delay-first-requires : goal.knot_delay-first-requires
knot_delay-first-requires c =
    let m = delay_model_of c.args.self.now in
    rw (c.samples_since.ensures, c.from.ensures)
    (IsKnot-at m c.args.self.now.samples c.args.n c.args.e.now (knot_before m c.args.e.now c.args.n) c.args.self.now.is_model c.requires.inside c.requires.poly c.requires.modelled (omega arith))

pub overflow_add-j : goal.overflow_add-j
overflow_add-j c =
    let m = delay_model_of c.args.self.now in
    let begun = IsBegun-poly_at m c.args.self.now.samples c.args.n c.args.e.now c.args.self.now.is_model c.requires.poly in
    let small = samples_since-small m c.args.self.now.samples c.args.n c.args.e.now c.args.self.now.is_model begun c.requires.inside in
    omega (arith, small, c.samples_since.ensures, div-le_self c.samples_since.result c.from.result)

pub knot_delay-next-requires : goal.knot_delay-next-requires
knot_delay-next-requires c =
    let m = delay_model_of c.args.self.now in
    rw (c.samples_since.ensures, c.from.ensures)
    (IsKnot-at m c.args.self.now.samples c.args.n c.args.e.now (knot_before m c.args.e.now c.args.n + 1) c.args.self.now.is_model c.requires.inside c.requires.poly c.requires.modelled (omega arith))
