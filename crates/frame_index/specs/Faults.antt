-- The causes of an index fault.
use Rattle.std.specs.Prelude.{◌≡◌, ℕ, ◌≤◌, Option, Some, Result, OnOk, IfErr}
use Rattle.dev_traits.specs.Fault.{HasRisen}
use Rattle.vdif_frame.specs.declared.shape.Field.{Field}
use Rattle.frame_index.specs.declared.fault.IndexFault.{IndexFault}
use Rattle.frame_index.specs.declared.fault.IndexFault.TheVariants.{Read, NoFrameAgrees, TooManySlots, Memory}

-- A read fault comes only where the shelf's count rose; with any other fault the count is as before.
abbrev pub CountsFault : ℕ → ℕ → IndexFault → Type 0
CountsFault before now Read = HasRisen before now
CountsFault before now (NoFrameAgrees field) = now ≡ before
CountsFault before now TooManySlots = now ≡ before
CountsFault before now Memory = now ≡ before

pub record CountsReads {T : Type 0} (before now : ℕ) (result : Result T IndexFault) : Type 0 where
  pub kept : OnOk result (now ≡ before)
  pub cause : IfErr result (CountsFault before now)
  pub no_fall : before ≤ now

-- a fault of a read, or want of memory
abbrev pub IsReadOrMemory : IndexFault → Type 0
IsReadOrMemory Read = Unit {0}
IsReadOrMemory (NoFrameAgrees field) = ⊥
IsReadOrMemory TooManySlots = ⊥
IsReadOrMemory Memory = Unit {0}

-- no field is said to differ but that of the first slot where none agrees
abbrev pub IsFieldOf : Option Field → IndexFault → Type 0
IsFieldOf foreign Read = Unit {0}
IsFieldOf foreign (NoFrameAgrees field) = foreign ≡ Some field
IsFieldOf foreign TooManySlots = Unit {0}
IsFieldOf foreign Memory = Unit {0}

-- the fault that names this field
abbrev pub IsFieldFault : Option Field → IndexFault → Type 0
IsFieldFault foreign Read = ⊥
IsFieldFault foreign (NoFrameAgrees field) = foreign ≡ Some field
IsFieldFault foreign TooManySlots = ⊥
IsFieldFault foreign Memory = ⊥
