use Rattle.std.proofs.Common.{◌≡◌, ◌<◌, ◌+◌, ℕ, pos, ◌+ℤ◌, ◌-ℤ◌, ◌<ℤ◌, unsigned_abs, to_z, of_z, arith, ap, ◌∙◌}
use Rattle.std.specs.Int.{w64}
use Rattle.std.proofs.lemmas.Int.{ints}
use Rattle.bit_planes.specs.Held.{values_in}
use Rattle.bit_planes.proofs.Values.{plane_value-inside}
use Rattle.bit_planes.proofs.planes.Planes.build.Goals as goal

pub returns-clause-values : goal.returns-clause-values
returns-clause-values g c n low high =
    let a = c.args in
    let b = c.in_ok-held.held in
    let k : ℕ = unsigned_abs (n -ℤ a.from) in
    let first : to_z w64 (of_z w64 a.from) +ℤ pos k ≡ n = omega (arith, ints) in
    let end : n <ℤ to_z w64 (of_z w64 a.to) = omega (arith, ints) in
    let place : pos (c.samples_between.result + k) ≡ n = omega (arith, ints, c.samples_between.ensures) in
    let inside : k < c.samples_between-2.result = omega (arith, ints, c.samples_between-2.ensures) in
    plane_value-inside
    (record { from = to_z w64 (of_z w64 a.from); to = to_z w64 (of_z w64 a.to); values = values_in b })
    n k first end ∙ c.in_ok-held.ensures.values k inside
    ∙ ap (g.V.Values.samples a.v.now a.station a.chan) place
