use Rattle.std.proofs.Common.{◌≤ℤ◌, ◌-ℤ◌, arith}
use Rattle.std.proofs.lemmas.Int.{ints}
use Rattle.delay_track.proofs.Samples.{IsPassed-seconds, unsigned_abs-product}
use Rattle.job_join.specs.Reach.{reach_model}
use Rattle.job_join.proofs.ReachLemmas.{IsSecondOf-poly_at}
use Rattle.job_join.proofs.reach.Reach.first_sample.Goals as goal

pub overflow_sub-result : goal.overflow_sub-result
overflow_sub-result c =
    let model = c.args.self.now.is_model in
    let of = IsSecondOf-poly_at (reach_model c.args.self.now) c.args.n c.args.second model c.requires in
    (IsPassed-seconds c.args.self.now.second c.args.second model.start of.ranges).fits

pub returns-else-second-self-clause-within : goal.returns-else-second-self-clause-within
returns-else-second-self-clause-within c =
    let model = c.args.self.now.is_model in
    let of = IsSecondOf-poly_at (reach_model c.args.self.now) c.args.n c.args.second model c.requires in
    let passed = IsPassed-seconds c.args.self.now.second c.args.second model.start of.ranges in
    let later : c.args.self.now.second ≤ℤ c.args.second = grind (arith, ints) in
    let within = unsigned_abs-product (c.args.second -ℤ c.args.self.now.second) c.args.n c.args.self.now.rate (omega (arith, ints, later)) of.begun in
    rw (passed.value, c.from.ensures) within
