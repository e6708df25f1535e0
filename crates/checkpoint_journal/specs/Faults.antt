-- When a call is refused.
use Rattle.std.specs.Prelude.{◌≡◌, ◌⊎◌, ℕ, ◌+◌, ◌≤◌, ◌^◌, false, List, Option}
use Rattle.dev_traits.specs.Fault.{HasRisen}
use Rattle.dev_traits.specs.Told.{WhereTold}
use Rattle.piece_plan.specs.Epochs.{JobSizes}
use Rattle.journal_image.specs.Image.{Reading, Reads, gate_of}
use Rattle.checkpoint_journal.specs.declared.fault.OpenFault.{OpenFault}
use Rattle.checkpoint_journal.specs.declared.fault.OpenFault.TheVariants.{Disk, Other, Memory}
use Rattle.checkpoint_journal.specs.Finding.{IsOther}

-- no file has a byte at this place: a record or a mark of so many bytes behind a gate, and the gate behind it, go past it
abbrev pub HasNoRoom : ℕ → ℕ → Type 0
HasNoRoom gate size = 2 ^ 63 ≤ gate + size + 2

-- an old journal without a mark in which there is no room for one
pub record LacksRoom (id : List ℕ) (job : JobSizes) (image : List ℕ) : Type 0 where
  pub reading : Reading
  pub reads : Reads id job image reading
  pub old : reading.due.ranged ≡ false
  pub full : HasNoRoom (gate_of id job reading) 24

-- The disk's count of faults rose, where the disk is blamed, or the mark of an old journal has no room. With any other answer it
-- did not rise.
abbrev pub CountsFault : List ℕ → JobSizes → Option (List ℕ) → ℕ → ℕ → OpenFault → Type 0
CountsFault id job seen before now Disk = HasRisen before now ⊎ ((now ≡ before) × WhereTold seen (LacksRoom id job))
CountsFault id job seen before now (Other d) = now ≡ before
CountsFault id job seen before now Memory = now ≡ before

-- where the disk is blamed its count rose, and with any other answer it did not
abbrev pub CountsLook : ℕ → ℕ → OpenFault → Type 0
CountsLook before now Disk = HasRisen before now
CountsLook before now (Other d) = now ≡ before
CountsLook before now Memory = now ≡ before

-- a journal of another job was found, where it is refused as such
abbrev pub IsRefused : List ℕ → JobSizes → Option (List ℕ) → OpenFault → Type 0
IsRefused id job seen Disk = Unit {0}
IsRefused id job seen (Other d) = WhereTold seen (λ image. IsOther id job image d)
IsRefused id job seen Memory = Unit {0}

-- where it is refused as such, or memory is wanting, what a read gives is unchanged
abbrev pub IsUnread : Option (List ℕ) → Option (List ℕ) → OpenFault → Type 0
IsUnread old new Disk = Unit {0}
IsUnread old new (Other d) = new ≡ old
IsUnread old new Memory = new ≡ old
