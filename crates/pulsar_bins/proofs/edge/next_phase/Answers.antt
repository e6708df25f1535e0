use Rattle.std.proofs.Common.{◌≡◌, ◌-◌, ◌/◌, ◌^◌, pos, ◌+ℤ◌, w64, FitsSigned, ap, arith}
use Rattle.std.proofs.lemmas.Int.{ints, to_z-of_z}
use Rattle.pulsar_bins.proofs.EdgeLemmas.{same-behind}
use Rattle.pulsar_bins.proofs.edge.next_phase.Goals as goal

pub returns-clause-same : goal.returns-clause-same
returns-clause-same c =
    let x = c.args in
    let part = c.in_phase.ensures in
    let fits : FitsSigned w64 c.in_phase.result = omega (arith, ints, part.value, part.bound) in
    let more : FitsSigned w64 (x.phase +ℤ c.in_phase.result) = omega (arith, ints, c.requires.small, part.value, part.bound) in
    let next : FitsSigned w64 (x.phase +ℤ c.in_phase.result +ℤ pos 1) = omega (arith, ints, c.requires.small, part.value, part.bound) in
    let rest = simp (to_z-of_z, c.ranges.phase) at c.past_edge.ensures.value in
    let is : x.phase +ℤ c.in_phase.result +ℤ pos 1 ≡ x.phase +ℤ pos ((2 ^ 32 - 1 - c.past_edge.result) / x.count) +ℤ pos 1 = ap (λ z. x.phase +ℤ z +ℤ pos 1) part.value in
    rw (to_z-of_z w64 x.phase c.ranges.phase, to_z-of_z w64 c.in_phase.result fits, to_z-of_z w64 (x.phase +ℤ c.in_phase.result) more, to_z-of_z w64 (x.phase +ℤ c.in_phase.result +ℤ pos 1) next)
    (same-behind x.count x.phase (x.phase +ℤ c.in_phase.result +ℤ pos 1) c.past_edge.result c.requires.some c.past_edge.ensures.bound rest is)
