-- Why the writing of a journal's records ends.
use Rattle.std.specs.Prelude.{◌≡◌, ⊤, ℕ, List, Option}
use Rattle.journal_records.specs.declared.fault.EmitFault.{EmitFault}
use Rattle.journal_records.specs.declared.fault.EmitFault.TheVariants.{Memory, Journal, Write}

-- Want of memory, before anything is appended; a fault of the journal, which names the epochs that it keeps; a write fault.
abbrev pub IsOfRecords : ℕ → Option (List ℕ) → Option (List ℕ) → EmitFault → Type 0
IsOfRecords epochs old new Memory = new ≡ old
IsOfRecords epochs old new (Journal kept) = kept ≡ epochs
IsOfRecords epochs old new Write = ⊤
