-- What a fault says of the journal.
use Rattle.std.proofs.Common.{◌≡◌, inl, inr, ℕ, List, Option, None, Some, subst}
use Rattle.dev_traits.specs.Told.{WhereTold}
use Rattle.piece_plan.specs.Epochs.{JobSizes}
use Rattle.checkpoint_journal.specs.Runs.{IsOurs}
use Rattle.journal_rounds.specs.declared.fault.ResumeFault.{ResumeFault}
use Rattle.journal_rounds.specs.declared.fault.ResumeFault.TheVariants.{Memory, Other, Read, Journal}
use Rattle.journal_rounds.specs.Counted.{CountsJournalFault}
use Rattle.journal_rounds.specs.Refused.{IsRefusedFor}
use Rattle.journal_rounds.specs.Steps.{IsOfEpoch}

-- where the journal was this job's when it was opened
pub refused_later : (id : List ℕ) (job : JobSizes) (old new : Option (List ℕ)) (fault : ResumeFault) → IsOfEpoch fault → WhereTold old (IsOurs id job)
    → IsRefusedFor id job old new fault
refused_later id job old new Memory of ours = tt
refused_later id job old new (Other d) of ours = absurd of
refused_later id job old new Read of ours = ours
refused_later id job old new (Journal None) of ours = absurd of
refused_later id job old new (Journal (Some kept)) of ours = ours

-- a count that is told by less
pub counts_weaker : (full wide : Type 0) (before now : ℕ) (fault : ResumeFault) → (full → wide) → CountsJournalFault full before now fault → CountsJournalFault wide before now fault
counts_weaker full wide before now Memory widen counts = counts
counts_weaker full wide before now (Other d) widen counts = counts
counts_weaker full wide before now Read widen counts = counts
counts_weaker full wide before now (Journal kept) widen (inl risen) = inl risen
counts_weaker full wide before now (Journal kept) widen (inr stays) = inr (stays.0, widen stays.1)

-- and from an earlier count on, which is the same
pub counts_since : (full wide : Type 0) (first before now : ℕ) (fault : ResumeFault) → before ≡ first → (full → wide) → CountsJournalFault full before now fault
    → CountsJournalFault wide first now fault
counts_since full wide first before now fault same widen counts =
    subst (λ (n : ℕ). CountsJournalFault wide n now fault) same (counts_weaker full wide before now fault widen counts)
