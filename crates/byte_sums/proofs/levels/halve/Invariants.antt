-- The places so far have the halves, and the others nothing; the bytes so far are levels where they have no other bits.
use Rattle.std.proofs.Common.{◌≡◌, ◌<◌, ◌≤◌, ◌/◌, ℕ, bit_and, get_or, length}
use Rattle.byte_sums.specs.Fields.{IsLevel}
use Rattle.byte_sums.proofs.levels.halve.Given as goal

abbrev pub invariant-loop-k : goal.invariant-loop-k
invariant-loop-k l = record {
  len : length l.out ≡ length l.fn.out;
  done : (k : ℕ) → k < l.k → get_or l.out k 0 ≡ get_or l.bytes k 0 / 2;
  rest : (k : ℕ) → l.k ≤ k → get_or l.out k 0 ≡ 0;
  levels : bit_and l.bits 249 ≡ 0 → (k : ℕ) → k < l.k → IsLevel (get_or l.bytes k 0);
}
