use Rattle.journal_cases.specs.Standing.{StandsIn}
use Rattle.journal_cases.proofs.job.Job.append_rest.Given as goal

-- the journal stands on the disk
abbrev pub invariant-loop : goal.invariant-loop
invariant-loop l = StandsIn l.self.plan l.journal l.disk
