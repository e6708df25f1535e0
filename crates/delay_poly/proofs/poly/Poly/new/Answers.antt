use Rattle.std.proofs.Common.{rules}
use Rattle.delay_poly.specs.Nested.{IsPoly}
use Rattle.delay_poly.proofs.Holding.{IsHeld-written}
use Rattle.delay_poly.proofs.poly.Poly.new.Goals as goal

pub invariant_of-result : goal.invariant_of-result
invariant_of-result c =
    let poly : IsPoly c.args.coeffs.now = search rules in
    IsHeld-written c.args.coeffs.now c.copy_from_slice.new.self c.copy_from_slice.ensures.after poly
