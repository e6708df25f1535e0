use Rattle.std.proofs.Common.{◌-ℤ◌, w64, FitsSigned, arith}
use Rattle.std.proofs.lemmas.Int.{ints, to_z-of_z}
use Rattle.job_join.specs.Reach.{reach_model}
use Rattle.job_join.proofs.ReachLemmas.{IsSecondOf-poly_at}
use Rattle.job_join.proofs.reach.Reach.samples_since.Goals as goal

pub overflow_sub-second : goal.overflow_sub-second
overflow_sub-second c =
    let model = c.args.self.now.is_model in
    let of = IsSecondOf-poly_at (reach_model c.args.self.now) c.args.n c.args.second model c.requires.poly in
    let start : FitsSigned w64 c.args.self.now.second = omega (arith, ints, model.start) in
    let begins : FitsSigned w64 c.args.second = omega (arith, ints, of.ranges) in
    omega (arith, ints, model.start, of.ranges)

pub overflow_sub-result : goal.overflow_sub-result
overflow_sub-result c =
    let model = c.args.self.now.is_model in
    let of = IsSecondOf-poly_at (reach_model c.args.self.now) c.args.n c.args.second model c.requires.poly in
    let start : FitsSigned w64 c.args.self.now.second = omega (arith, ints, model.start) in
    let begins : FitsSigned w64 c.args.second = omega (arith, ints, of.ranges) in
    let seconds : FitsSigned w64 (c.args.second -ℤ c.args.self.now.second) = omega (arith, ints, model.start, of.ranges) in
    let product = simp to_z-of_z at c.samples_in_seconds.ensures in
    omega (arith, ints, product, of.since, of.low, c.requires.inside)

pub overflow_cast-result-2 : goal.overflow_cast-result-2
overflow_cast-result-2 c =
    let model = c.args.self.now.is_model in
    let of = IsSecondOf-poly_at (reach_model c.args.self.now) c.args.n c.args.second model c.requires.poly in
    let start : FitsSigned w64 c.args.self.now.second = omega (arith, ints, model.start) in
    let begins : FitsSigned w64 c.args.second = omega (arith, ints, of.ranges) in
    let seconds : FitsSigned w64 (c.args.second -ℤ c.args.self.now.second) = omega (arith, ints, model.start, of.ranges) in
    let product = simp to_z-of_z at c.samples_in_seconds.ensures in
    omega (arith, ints, product, of.since, of.low, c.requires.inside)

pub returns : goal.returns
returns c =
    let model = c.args.self.now.is_model in
    let of = IsSecondOf-poly_at (reach_model c.args.self.now) c.args.n c.args.second model c.requires.poly in
    let start : FitsSigned w64 c.args.self.now.second = omega (arith, ints, model.start) in
    let begins : FitsSigned w64 c.args.second = omega (arith, ints, of.ranges) in
    let seconds : FitsSigned w64 (c.args.second -ℤ c.args.self.now.second) = omega (arith, ints, model.start, of.ranges) in
    let product = simp to_z-of_z at c.samples_in_seconds.ensures in
    omega (arith, ints, product, of.since, of.low, c.requires.inside)
