use Rattle.std.proofs.Common.{◌≡◌, ◌≤◌, drop, unsigned_abs}
use Rattle.delay_poly.specs.Nested.{nested, magnitude}
use Rattle.delay_poly.proofs.poly.nest.Given as goal

abbrev pub invariant-loop-k : goal.invariant-loop-k
invariant-loop-k l =
    (l.value ≡ nested (drop l.k l.coeffs) l.j)
    × (unsigned_abs l.value ≤ magnitude (drop l.k l.coeffs))
