use Rattle.std.proofs.Common.{◌≡◌, take, drop}
use Rattle.std.specs.Slots.{slots_items}
use Rattle.atomic_sums.proofs.board.sum_words.Given as goal

abbrev pub invariant-loop-i : goal.invariant-loop-i
invariant-loop-i l = l.words.items ≡ take l.i (drop 1 (slots_items l.closed.words))
