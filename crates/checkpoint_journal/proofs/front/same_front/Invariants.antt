use Rattle.std.proofs.Common.{ℕ, ◌+◌, ◌<◌, get_or}
use Rattle.checkpoint_journal.specs.Front.{IsOursByte}
use Rattle.checkpoint_journal.proofs.front.same_front.Given as goal

abbrev pub invariant-loop-i : goal.invariant-loop-i
invariant-loop-i l = (k : ℕ) → k < l.i → IsOursByte (l.first + k) (get_or l.bytes k 0) (get_or l.part k 0)
