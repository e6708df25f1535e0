use Rattle.std.proofs.Common.{◌≡◌, FitsSigned, to_z, of_z, rules}
use Rattle.std.specs.Int.{w128}
use Rattle.std.proofs.lemmas.Int.{to_z-of_z}
use Rattle.num_time.specs.Numbers.{floor_of}
use Rattle.num_time.proofs.QuotientLemmas.{floor_of-mul-le, lt-floor_of-mul}
use Rattle.num_time.proofs.quotients.floor_div.Goals as goal

quotient_is : (c : goal.After-div_euclid) → to_z w128 (of_z w128 c.div_euclid.result) ≡ floor_of c.args.a c.args.b
quotient_is c =
    let fits : FitsSigned w128 c.div_euclid.result = search rules in
    let fa : FitsSigned w128 c.args.a = c.ranges.a in
    let fb : FitsSigned w128 c.args.b = c.ranges.b in
    let is = simp to_z-of_z at c.div_euclid.ensures in
    simp to_z-of_z is

pub returns-clause-below : goal.returns-clause-below
returns-clause-below c = rw (quotient_is c) (floor_of-mul-le c.args.a c.args.b c.requires)

pub returns-clause-above : goal.returns-clause-above
returns-clause-above c = rw (quotient_is c) (lt-floor_of-mul c.args.a c.args.b c.requires)
