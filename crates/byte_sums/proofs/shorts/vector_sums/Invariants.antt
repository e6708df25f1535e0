-- The four sums so far, and how large their lanes are.
use Rattle.std.proofs.Common.{◌≤◌, ◌*◌}
use Rattle.std.specs.Simd.Lanes.{Each1}
use Rattle.byte_sums.proofs.Chunks.{FourSums}
use Rattle.byte_sums.proofs.shorts.vector_sums.Given as goal

abbrev pub invariant-loop-i : goal.invariant-loop-i
invariant-loop-i l = record {
  sums : FourSums 16 l.a l.b l.at (32 * l.i) l.first l.second l.third l.fourth;
  first_small : Each1 (λ x. x ≤ 288 * l.i) l.first;
  second_small : Each1 (λ x. x ≤ 288 * l.i) l.second;
  third_small : Each1 (λ x. x ≤ 288 * l.i) l.third;
  fourth_small : Each1 (λ x. x ≤ 288 * l.i) l.fourth;
}
