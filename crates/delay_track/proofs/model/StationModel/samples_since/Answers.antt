use Rattle.std.proofs.Common.{◌≡◌, ◌+◌, ◌^◌, ◌<◌, pos, ◌-ℤ◌, ◌*ℤ◌, ap, ◌∙◌, arith}
use Rattle.std.proofs.lemmas.Int.{ints}
use Rattle.corr_model.specs.Delay.{samples_since}
use Rattle.delay_track.specs.StationModel.{delay_model_of}
use Rattle.delay_track.proofs.Polynomials.{IsBegun-poly_at}
use Rattle.delay_track.proofs.Samples.{IsPassed-seconds, samples_since-pos, samples_since-small}
use Rattle.delay_track.proofs.model.StationModel.samples_since.Goals as goal

pub overflow_sub-e : goal.overflow_sub-e
overflow_sub-e c =
    let model = c.args.self.now.is_model in
    let begun = IsBegun-poly_at (delay_model_of c.args.self.now) c.args.self.now.samples c.args.n c.args.e.now model c.requires.poly in
    (IsPassed-seconds c.args.self.now.second c.args.e.now.second model.start begun.second).fits

-- what is left of the samples before `n`
left : (c : goal.After-samples_in)
    → (c.from.result -ℤ c.samples_in.result ≡ pos (samples_since (delay_model_of c.args.self.now) c.args.e.now c.args.n))
    × (samples_since (delay_model_of c.args.self.now) c.args.e.now c.args.n + 1 < 2 ^ 64)
left c =
    let m = delay_model_of c.args.self.now in
    let model = c.args.self.now.is_model in
    let begun = IsBegun-poly_at m c.args.self.now.samples c.args.n c.args.e.now model c.requires.poly in
    let passed = IsPassed-seconds m.start c.args.e.now.second model.start begun.second in
    let samples = c.samples_in.ensures ∙ ap (λ s. s *ℤ pos m.rate) passed.value in
    let is = samples_since-pos m c.args.n c.args.e.now begun in
    rw (samples, c.from.ensures) (is, samples_since-small m c.args.self.now.samples c.args.n c.args.e.now model begun c.requires.inside)

pub overflow_sub-result : goal.overflow_sub-result
overflow_sub-result c = let is = left c in omega (arith, ints, is.0, is.1)

pub overflow_cast-result : goal.overflow_cast-result
overflow_cast-result c = let is = left c in omega (arith, ints, is.0, is.1)

pub returns : goal.returns
returns c = let is = left c in omega (arith, ints, is.0, is.1)
