use Rattle.std.proofs.Common.{All}
use Rattle.piece_plan.specs.Epochs.{IsScan}
use Rattle.journal_cases.specs.Few.{HasFewCells}
use Rattle.journal_cases.proofs.plan.plan_of.Given as goal

-- each scan so far has the size of one, and few cells
abbrev pub invariant-loop-word : goal.invariant-loop-word
invariant-loop-word l = record {
  scans : All (IsScan l.integration l.lags) l.scans.items;
  few : All (HasFewCells l.lags) l.scans.items;
}
