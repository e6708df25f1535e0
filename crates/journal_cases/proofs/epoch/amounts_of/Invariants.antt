use Rattle.std.proofs.Common.{◌≡◌, ◌*◌, length}
use Rattle.journal_cases.proofs.epoch.amounts_of.Given as goal

-- three amounts for each cell so far
abbrev pub invariant-loop-cell : goal.invariant-loop-cell
invariant-loop-cell l = length l.amounts.items ≡ 3 * l.cell-index
