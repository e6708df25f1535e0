use Rattle.journal_cases.specs.Standing.{StandsIn}
use Rattle.journal_cases.proofs.reading.retry.Given as goal

-- the journal stands on the disk
abbrev pub invariant-loop : goal.invariant-loop
invariant-loop l = StandsIn l.job.plan l.journal l.disk
