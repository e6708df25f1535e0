-- What a fault says of the journal.
use Rattle.std.specs.Prelude.{◌≡◌, ◌⊎◌, ⊤, ℕ, ◌+◌, List, Option, None, Some}
use Rattle.dev_traits.specs.Told.{WhereTold}
use Rattle.piece_plan.specs.Epochs.{JobSizes}
use Rattle.checkpoint_journal.specs.Runs.{StepTold, KeepsEpochs, IsOurs}
use Rattle.journal_image.specs.declared.difference.Differs.{Differs}
use Rattle.checkpoint_journal.specs.Finding.{IsOther}
use Rattle.checkpoint_journal.specs.Kept.{KeepsMany}
use Rattle.journal_rounds.specs.declared.fault.ResumeFault.{ResumeFault}
use Rattle.journal_rounds.specs.declared.fault.ResumeFault.TheVariants.{Memory, Other, Read, Journal}

-- another job's journal is left as it is
abbrev pub IsLeftOther : List ℕ → JobSizes → Option (List ℕ) → Option (List ℕ) → Differs → Type 0
IsLeftOther id job old new d = WhereTold old (λ image. IsOther id job image d) × (new ≡ old)

-- a fault of the journal before it is open leaves what it kept; a later one comes only of a journal of this job
abbrev pub IsJournalFault : List ℕ → JobSizes → Option (List ℕ) → Option (List ℕ) → Option ℕ → Type 0
IsJournalFault id job old new None = StepTold (KeepsEpochs id job) old new
IsJournalFault id job old new (Some kept) = WhereTold old (IsOurs id job)

-- What a read of the journal gave and gives, where a call fails. A journal of another job is refused as such, and a read
-- fault comes only once the journal is found to be this job's.
abbrev pub IsRefusedFor : List ℕ → JobSizes → Option (List ℕ) → Option (List ℕ) → ResumeFault → Type 0
IsRefusedFor id job old new Memory = ⊤
IsRefusedFor id job old new (Other d) = IsLeftOther id job old new d
IsRefusedFor id job old new Read = WhereTold old (IsOurs id job)
IsRefusedFor id job old new (Journal kept) = IsJournalFault id job old new kept

-- Where a fault names k epochs as kept, each image keeps k or k + 1.
abbrev pub KeepsNamed : List ℕ → JobSizes → (List ℕ → Type 0) → ResumeFault → Type 0
KeepsNamed id job images (Journal (Some k)) = (image : List ℕ) → images image → KeepsMany id job image k ⊎ KeepsMany id job image (k + 1)
KeepsNamed id job images _ = ⊤
