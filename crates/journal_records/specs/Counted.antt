-- Counts of faults over a call that writes the records of a journal.
use Rattle.std.specs.Prelude.{◌≡◌, ℕ, Result, MatchResult}
use Rattle.dev_traits.specs.Fault.{HasRisen}
use Rattle.journal_records.specs.declared.fault.EmitFault.{EmitFault}
use Rattle.journal_records.specs.declared.fault.EmitFault.TheVariants.{Journal, Write}

-- one fact for a fault of the journal, another for the rest
abbrev pub MatchJournal : EmitFault → Type 0 → Type 0 → Type 0
MatchJournal (Journal kept) P Q = P
MatchJournal _ P Q = Q

-- one fact for a fault of the output, another for the rest
abbrev pub MatchWrite : EmitFault → Type 0 → Type 0 → Type 0
MatchWrite Write P Q = P
MatchWrite _ P Q = Q

-- a fault of the journal comes only where the disk's count rose, and with any other answer it stays
abbrev pub CountsJournal : {T : Type 0} → ℕ → ℕ → Result T EmitFault → Type 0
CountsJournal before now result =
    MatchResult result (λ _. now ≡ before) (λ fault. MatchJournal fault (HasRisen before now) (now ≡ before))

-- a write fault comes only where the sink's count rose, and with any other answer it stays
abbrev pub CountsWrites : {T : Type 0} → ℕ → ℕ → Result T EmitFault → Type 0
CountsWrites before now result =
    MatchResult result (λ _. now ≡ before) (λ fault. MatchWrite fault (HasRisen before now) (now ≡ before))
