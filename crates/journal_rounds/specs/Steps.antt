-- The steps by which a journal is brought on: it is opened, and one epoch after another is read, summed and appended.
use Rattle.std.specs.Prelude.{◌≡◌, ⊤, ℕ, ◌+◌, ◌≤◌, ◌^◌, List, length, Option, None, Some}
use Rattle.dev_traits.specs.Told.{WhereTold}
use Rattle.piece_plan.specs.Epochs.{JobSizes}
use Rattle.piece_plan.specs.Order.{Place}
use Rattle.plan_places.specs.Walk.{AreLeft}
use Rattle.journal_image.specs.Image.{KeptEpoch, Keeps}
use Rattle.checkpoint_journal.specs.declared.fault.OpenFault.{OpenFault}
use Rattle.checkpoint_journal.specs.declared.fault.OpenFault.TheVariants.{Disk, Other as OtherJob, Memory as NoMemory}
use Rattle.journal_rounds.specs.declared.fault.ResumeFault.{ResumeFault}
use Rattle.journal_rounds.specs.declared.fault.ResumeFault.TheVariants.{Memory, Other, Read, Journal}
use Rattle.journal_rounds.specs.Counted.{IsFull}
use Rattle.journal_rounds.specs.Room.{DueIn}

-- the fault of a journal that is not opened
abbrev pub opening_fault : OpenFault → ResumeFault
opening_fault Disk = Journal None
opening_fault (OtherJob d) = Other d
opening_fault NoMemory = Memory

-- the faults of a journal before it is open
abbrev pub IsOfOpening : ResumeFault → Type 0
IsOfOpening Memory = ⊤
IsOfOpening (Other d) = ⊤
IsOfOpening Read = ⊥
IsOfOpening (Journal None) = ⊤
IsOfOpening (Journal (Some kept)) = ⊥

-- the fault of an append
abbrev pub IsOfAppend : ResumeFault → Type 0
IsOfAppend Memory = ⊥
IsOfAppend (Other d) = ⊥
IsOfAppend Read = ⊥
IsOfAppend (Journal None) = ⊥
IsOfAppend (Journal (Some kept)) = ⊤

-- the faults of a round, in which epochs are read, summed and appended
abbrev pub IsOfEpoch : ResumeFault → Type 0
IsOfEpoch Memory = ⊤
IsOfEpoch (Other d) = ⊥
IsOfEpoch Read = ⊤
IsOfEpoch (Journal None) = ⊥
IsOfEpoch (Journal (Some kept)) = ⊤

-- a journal that is full, as it was before the call
pub record StaysFull (id : List ℕ) (job : JobSizes) (old new : Option (List ℕ)) : Type 0 where
  pub same : new ≡ old
  pub full : WhereTold old (IsFull id job)

-- a journal that is full, and has 2^62 bytes or more
pub record IsLongOpened (id : List ℕ) (job : JobSizes) (old new : Option (List ℕ)) : Type 0 where
  pub full : WhereTold new (IsFull id job)
  pub long : WhereTold old (λ image. 2 ^ 62 ≤ length image)

-- what an image keeps, and so many epochs in all, with those of this length that are to come
pub record Begins (id : List ℕ) (job : JobSizes) (epoch all : ℕ) (image : List ℕ) : Type 0 where
  pub old : List KeptEpoch
  pub keeps : Keeps id job image old
  pub left : (due : Option Place) (n : ℕ) → DueIn id job image due → AreLeft job epoch due n → all ≡ length old + n
