-- Counts of faults over a call that may fail.
use Rattle.std.specs.Prelude.{◌≡◌, ◌⊎◌, ℕ, ◌+◌, ◌*◌, ◌≤◌, List, Result, MatchResult}
use Rattle.dev_traits.specs.Fault.{HasRisen}
use Rattle.piece_plan.specs.Epochs.{JobSizes}
use Rattle.journal_image.specs.Image.{Reading, Reads, gate_of}
use Rattle.checkpoint_journal.specs.Faults.{HasNoRoom}
use Rattle.journal_rounds.specs.declared.fault.ResumeFault.{ResumeFault}
use Rattle.journal_rounds.specs.declared.fault.ResumeFault.TheVariants.{Memory, Other, Read, Journal}

-- The shelf's count at a fault: it rose where a read is blamed, it may have risen beside a fault of the journal, which is answered
-- first, and with any other it stays.
abbrev pub CountsReadFault : ℕ → ℕ → ResumeFault → Type 0
CountsReadFault before now Memory = now ≡ before
CountsReadFault before now (Other d) = now ≡ before
CountsReadFault before now Read = HasRisen before now
CountsReadFault before now (Journal kept) = before ≤ now

-- a read fault comes only where the shelf's count rose, and with no fault it stays
abbrev pub CountsReadsBeside : {T : Type 0} → ℕ → ℕ → Result T ResumeFault → Type 0
CountsReadsBeside before now result = MatchResult result (λ _. now ≡ before) (CountsReadFault before now)

-- a journal in which there is no room behind the last gate for a record, of 28 bytes and at most 4,194,304 cells, or a mark
pub record IsFull (id : List ℕ) (job : JobSizes) (image : List ℕ) : Type 0 where
  pub reading : Reading
  pub reads : Reads id job image reading
  pub size : ℕ
  pub most : size ≤ 28 + 24 * 4194304
  pub full : HasNoRoom (gate_of id job reading) size

-- The disk's count at a fault: where the journal is blamed it rose, or it stays and the journal is full; and with any other fault
-- it stays.
abbrev pub CountsJournalFault : Type 0 → ℕ → ℕ → ResumeFault → Type 0
CountsJournalFault full before now Memory = now ≡ before
CountsJournalFault full before now (Other d) = now ≡ before
CountsJournalFault full before now Read = now ≡ before
CountsJournalFault full before now (Journal kept) = HasRisen before now ⊎ ((now ≡ before) × full)

-- a fault of the journal comes only where the disk's count rose or the journal is full, and with no fault the count stays
abbrev pub CountsJournal : {T : Type 0} → Type 0 → ℕ → ℕ → Result T ResumeFault → Type 0
CountsJournal full before now result = MatchResult result (λ _. now ≡ before) (CountsJournalFault full before now)
