-- What a call that writes the record file of shards may be refused for.
use Rattle.std.specs.Prelude.{◌≡◌, ⊤, ℕ, List, Option, MatchResult, Result}
use Rattle.dev_traits.specs.Fault.{HasRisen}
use Rattle.shard_merge.specs.declared.fault.OutputFault.{OutputFault}
use Rattle.shard_merge.specs.declared.fault.OutputFault.TheVariants.{Memory, Read, Write}

-- with want of memory nothing was appended
abbrev pub IsUnwritten : Option (List ℕ) → Option (List ℕ) → OutputFault → Type 0
IsUnwritten old new Memory = new ≡ old
IsUnwritten old new Read = ⊤
IsUnwritten old new Write = ⊤

-- a read fault comes only where the shelf's count rose, and with any other answer it stays
abbrev pub CountsOutputReads : {T : Type 0} → ℕ → ℕ → Result T OutputFault → Type 0
CountsOutputReads before now result = MatchResult result (λ _. now ≡ before) (blames before now)
  where
    blames : ℕ → ℕ → OutputFault → Type 0
    blames before now Read = HasRisen before now
    blames before now _ = now ≡ before

-- a write fault comes only where the sink's count rose, and with any other answer it stays
abbrev pub CountsOutputWrites : {T : Type 0} → ℕ → ℕ → Result T OutputFault → Type 0
CountsOutputWrites before now result = MatchResult result (λ _. now ≡ before) (blames before now)
  where
    blames : ℕ → ℕ → OutputFault → Type 0
    blames before now Write = HasRisen before now
    blames before now _ = now ≡ before
