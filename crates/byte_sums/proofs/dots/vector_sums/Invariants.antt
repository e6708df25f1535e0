-- The four sums so far.
use Rattle.std.proofs.Common.{◌*◌}
use Rattle.byte_sums.proofs.Chunks.{FourSums}
use Rattle.byte_sums.proofs.dots.vector_sums.Given as goal

abbrev pub invariant-loop-i : goal.invariant-loop-i
invariant-loop-i l = FourSums 8 l.a l.b l.at (32 * l.i) l.first l.second l.third l.fourth
