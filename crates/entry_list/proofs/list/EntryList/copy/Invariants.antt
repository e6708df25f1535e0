use Rattle.std.proofs.Common.{◌≡◌, take}
use Rattle.entry_list.proofs.list.EntryList.copy.Given as goal

abbrev pub invariant-loop-e : goal.invariant-loop-e
invariant-loop-e g l = l.list ≡ take l.e-index l.e-items
