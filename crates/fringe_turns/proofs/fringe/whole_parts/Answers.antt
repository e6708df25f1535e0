use Rattle.std.proofs.Common.{◌≡◌, ◌*◌, ◌^◌, ◌≤◌, pos, unsigned_abs, FitsSigned, ap, ◌∙◌, arith}
use Rattle.std.specs.Int.{w128, int_div_euclid}
use Rattle.std.proofs.Math.Nat.{mul_comm}
use Rattle.std.proofs.lemmas.Int.{ints, to_z-of_z}
use Rattle.fringe_turns.proofs.QuotientLemmas.{floor_floor, floor-within}
use Rattle.fringe_turns.proofs.fringe.whole_parts.Goals as goal

pub returns : goal.returns
returns c =
    let n = c.args.number in
    let rate = c.args.rate in
    let high = c.div_euclid.result in
    let whole = c.floor.result in
    let fits : FitsSigned w128 n = c.ranges.number in
    let high_is : high ≡ int_div_euclid n (pos (2 ^ 33)) = simp to_z-of_z at c.div_euclid.ensures in
    let high_small : unsigned_abs high ≤ unsigned_abs n = rw high_is (floor-within n (2 ^ 33) (omega arith)) in
    let fits_high : FitsSigned w128 high = omega (arith, ints, c.requires.number, high_small) in
    let is : whole ≡ int_div_euclid high (pos rate) = simp to_z-of_z at c.floor.ensures.value in
    let small : unsigned_abs whole ≤ unsigned_abs high = simp to_z-of_z at c.floor.ensures.within in
    let fits_whole : FitsSigned w128 whole = omega (arith, ints, c.requires.number, high_small, small) in
    let value : whole ≡ int_div_euclid n (pos (rate * 2 ^ 33)) =
    is ∙ ap (λ z. int_div_euclid z (pos rate)) high_is ∙ floor_floor n (2 ^ 33) rate ∙ ap (λ d. int_div_euclid n (pos d)) (mul_comm (2 ^ 33) rate) in
    simp to_z-of_z value
