-- The places so far have the halves of two levels, and the others nothing; the bytes so far are levels where they have no other bits.
use Rattle.std.proofs.Common.{◌≡◌, ◌<◌, ◌≤◌, ◌+◌, ◌*◌, ◌/◌, ◌%◌, ℕ, bit_and, get_or, length}
use Rattle.byte_sums.specs.Fields.{IsLevel}
use Rattle.byte_sums.proofs.levels.join_halves.Given as goal

abbrev pub invariant-loop-k : goal.invariant-loop-k
invariant-loop-k l = record {
  len : length l.out ≡ length l.fn.out;
  near : (k : ℕ) → k < l.k → IsLevel (get_or l.bytes k 0) → IsLevel (get_or l.bytes (l.far + k) 0) → 2 * (get_or l.out k 0 % 64) ≡ get_or l.bytes k 0;
  far : (k : ℕ) → k < l.k → IsLevel (get_or l.bytes k 0) → IsLevel (get_or l.bytes (l.far + k) 0) → 2 * (get_or l.out k 0 / 64) ≡ get_or l.bytes (l.far + k) 0;
  rest : (k : ℕ) → l.k ≤ k → get_or l.out k 0 ≡ 0;
  levels : bit_and l.bits 249 ≡ 0 → (k : ℕ) → k < l.k → IsLevel (get_or l.bytes k 0) × IsLevel (get_or l.bytes (l.far + k) 0);
}
