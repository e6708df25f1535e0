use Rattle.std.proofs.Common.{◌≡◌, length}
use Rattle.journal_cases.proofs.epoch.cells_of.Given as goal

-- so many cells so far
abbrev pub invariant-loop-number : goal.invariant-loop-number
invariant-loop-number l = length l.cells.items ≡ l.number
