use Rattle.std.proofs.Common.{◌≡◌, ◌*◌, ◌^◌, ◌<◌, pos, ◌+ℤ◌, ◌*ℤ◌, ◌≤ℤ◌, ◌<ℤ◌, refl, ap, ◌∙◌, arith}
use Rattle.std.proofs.lemmas.Int.{ints}
use Rattle.corr_model.specs.Delay.{clock_samples}
use Rattle.delay_track.specs.StationModel.{delay_model_of}
use Rattle.delay_track.proofs.Clocks.{IsClockFor-clock_of, clock_samples-begun, clock_samples-within}
use Rattle.delay_track.proofs.Samples.{IsPassed-seconds}
use Rattle.delay_track.proofs.model.StationModel.clock_samples.Goals as goal

pub overflow_sub-e : goal.overflow_sub-e
overflow_sub-e c =
    let clock = IsClockFor-clock_of (delay_model_of c.args.self.now) c.args.self.now.samples c.args.e.now c.args.c.now c.args.self.now.is_model c.requires.clock in
    (IsPassed-seconds c.args.c.now.second c.args.e.now.second clock.ranges.second c.requires.knot.second).fits

-- the samples of the seconds and those to the knot
counted : (c : goal.After-samples_to)
    → (c.samples_in.result +ℤ c.samples_to.result ≡ clock_samples (delay_model_of c.args.self.now) c.args.e.now c.args.c.now c.args.j)
    × (pos 0 ≤ℤ (c.samples_in.result +ℤ c.samples_to.result))
    × ((c.samples_in.result +ℤ c.samples_to.result) <ℤ pos (2 ^ 32 * c.args.self.now.rate))
    × (c.args.self.now.rate < 2 ^ 32)
counted c =
    let m = delay_model_of c.args.self.now in
    let model = c.args.self.now.is_model in
    let clock = IsClockFor-clock_of m c.args.self.now.samples c.args.e.now c.args.c.now model c.requires.clock in
    let passed = IsPassed-seconds c.args.c.now.second c.args.e.now.second clock.ranges.second c.requires.knot.second in
    let samples = c.samples_in.ensures ∙ ap (λ s. s *ℤ pos m.rate) passed.value in
    let begun = clock_samples-begun m c.args.e.now c.args.c.now c.args.j clock in
    let within = clock_samples-within m c.args.self.now.samples c.args.e.now c.args.c.now c.args.j model c.requires.knot clock in
    rw (samples, c.samples_to.ensures) (refl, begun, within, model.rate)

pub overflow_add-result : goal.overflow_add-result
overflow_add-result c = let is = counted c in omega (arith, ints, is.1, is.2, is.3)

pub returns-clause-value : goal.returns-clause-value
returns-clause-value c = let is = counted c in omega (arith, ints, is.0, is.1, is.2, is.3)

pub returns-clause-begun : goal.returns-clause-begun
returns-clause-begun c = let is = counted c in omega (arith, ints, is.1, is.2, is.3)

pub returns-clause-within : goal.returns-clause-within
returns-clause-within c = let is = counted c in omega (arith, ints, is.1, is.2, is.3)
