-- Counts of faults over a call that may be refused.
use Rattle.std.specs.Prelude.{◌≡◌, ◌≤◌, ℕ, Result, MatchResult}
use Rattle.dev_traits.specs.Fault.{HasRisen}
use Rattle.run_notes.specs.declared.refusal.Refusal.{Refusal}
use Rattle.run_notes.specs.Refusals.{MatchRead, MatchReadOrJournal, MatchJournal, MatchWrite}

-- a read fault comes only where the shelf's count rose, and with any other answer it stays
abbrev pub CountsReads : {T : Type 0} → ℕ → ℕ → Result T Refusal → Type 0
CountsReads before now result =
    MatchResult result (λ _. now ≡ before) (λ r. MatchRead r (HasRisen before now) (now ≡ before))

-- The same of a call that reads while it writes the journal: the shelf's count may have risen beside a fault of the journal too,
-- which is answered first.
abbrev pub CountsReadsBeside : {T : Type 0} → ℕ → ℕ → Result T Refusal → Type 0
CountsReadsBeside before now result =
    MatchResult result (λ _. now ≡ before) (λ r. MatchReadOrJournal r (HasRisen before now) (before ≤ now) (now ≡ before))

-- a write fault comes only where the sink's count rose, and with any other answer it stays
abbrev pub CountsWrites : {T : Type 0} → ℕ → ℕ → Result T Refusal → Type 0
CountsWrites before now result =
    MatchResult result (λ _. now ≡ before) (λ r. MatchWrite r (HasRisen before now) (now ≡ before))

-- a fault of the journal comes only where the disk's count rose, and with any other answer it stays
abbrev pub CountsJournal : {T : Type 0} → ℕ → ℕ → Result T Refusal → Type 0
CountsJournal before now result =
    MatchResult result (λ _. now ≡ before) (λ r. MatchJournal r (HasRisen before now) (now ≡ before))
