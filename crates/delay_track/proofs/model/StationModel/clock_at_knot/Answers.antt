use Rattle.std.proofs.Common.{rules, ◌≡◌, None, Some, w64, FitsSigned, arith}
use Rattle.std.specs.Int.{w128}
use Rattle.std.proofs.lemmas.Int.{ints, to_z-of_z}
use Rattle.corr_model.specs.Delay.{clock_of}
use Rattle.delay_track.specs.StationModel.{delay_model_of}
use Rattle.delay_track.proofs.Clocks.{IsClockFor-clock_of, clock_at_knot-none, clock_at_knot-some}
use Rattle.delay_track.proofs.model.StationModel.clock_at_knot.Goals as goal

pub returns-in-None-clause-value : goal.returns-in-None-clause-value
returns-in-None-clause-value c =
    let m = delay_model_of c.args.self.now in
    let none : clock_of m c.args.e.now ≡ None = cc in
    rw (clock_at_knot-none m c.args.e.now c.args.j none)

pub clock_at-requires-clause-offset : goal.clock_at-requires-clause-offset
clock_at-requires-clause-offset c =
    let m = delay_model_of c.args.self.now in
    let some : clock_of m c.args.e.now ≡ Some c.in-Some.c = cc in
    (IsClockFor-clock_of m c.args.self.now.samples c.args.e.now c.in-Some.c c.args.self.now.is_model some).ranges.offset

pub clock_at-requires-clause-drift : goal.clock_at-requires-clause-drift
clock_at-requires-clause-drift c =
    let m = delay_model_of c.args.self.now in
    let some : clock_of m c.args.e.now ≡ Some c.in-Some.c = cc in
    (IsClockFor-clock_of m c.args.self.now.samples c.args.e.now c.in-Some.c c.args.self.now.is_model some).ranges.drift

pub returns-in-Some-clause-value : goal.returns-in-Some-clause-value
returns-in-Some-clause-value c =
    let m = delay_model_of c.args.self.now in
    let some : clock_of m c.args.e.now ≡ Some c.in-Some.c = cc in
    let u : FitsSigned w128 c.clock_samples.result = search rules in
    let fits : FitsSigned w64 c.clock_at.result = omega (arith, ints, c.clock_at.ensures.bound) in
    let value = rw c.clock_samples.ensures.value at (simp to_z-of_z at c.clock_at.ensures.value) in
    rw (clock_at_knot-some m c.args.e.now c.args.j c.in-Some.c some, to_z-of_z w64 c.clock_at.result fits) value
