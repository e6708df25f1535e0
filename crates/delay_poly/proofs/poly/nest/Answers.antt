use Rattle.std.proofs.Common.{rules, ◌≡◌, ◌+◌, ◌-◌, ◌<◌, length, get_or, pos, w64, FitsSigned, arith}
use Rattle.std.proofs.lemmas.Int.{ints}
use Rattle.delay_poly.proofs.Nesting.{magnitude-drop, magnitude-drop-le}
use Rattle.delay_poly.proofs.poly.nest.Goals as goal

pub step-value-requires-clause-small : goal.step-value-requires-clause-small
step-value-requires-clause-small c =
    let k = c.loop-k.k in
    let within : k - 1 < length c.args.coeffs.now = omega arith in
    let fits : FitsSigned w64 (get_or c.args.coeffs.now (k - 1) (pos 0)) = search rules in
    let back : k - 1 + 1 ≡ k = omega arith in
    let more = rw back at (magnitude-drop c.args.coeffs.now (k - 1) (pos 0) within) in
    omega (arith, ints, c.loop-k.invariant.1, more, magnitude-drop-le c.args.coeffs.now (k - 1), c.requires.small)
