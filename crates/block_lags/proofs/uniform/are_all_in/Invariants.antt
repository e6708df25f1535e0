-- The bytes of the stretch so far are this one.
use Rattle.std.proofs.Common.{◌≡◌, ◌<◌, ◌≤◌, ℕ, true, get_or}
use Rattle.block_lags.proofs.uniform.are_all_in.Given as goal

abbrev pub invariant-loop-k : goal.invariant-loop-k
invariant-loop-k l = l.same ≡ true → (k : ℕ) → k < l.k → l.from ≤ k → get_or l.bytes k 0 ≡ l.byte
