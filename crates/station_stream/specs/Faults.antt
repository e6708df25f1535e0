-- The causes of a fault of a stream.
use Rattle.std.specs.Prelude.{◌≡◌, ℕ, ◌≤◌, Result, OnOk, IfErr}
use Rattle.dev_traits.specs.Fault.{HasRisen}
use Rattle.station_stream.specs.declared.fault.StreamFault.{StreamFault}
use Rattle.station_stream.specs.declared.fault.StreamFault.TheVariants.{Read, Memory}

-- A read fault comes only where the shelf's count rose; want of memory leaves the count as before.
abbrev pub CountsFault : ℕ → ℕ → StreamFault → Type 0
CountsFault before now Read = HasRisen before now
CountsFault before now Memory = now ≡ before

pub record CountsReads {T : Type 0} (before now : ℕ) (result : Result T StreamFault) : Type 0 where
  pub kept : OnOk result (now ≡ before)
  pub cause : IfErr result (CountsFault before now)
  pub no_fall : before ≤ now
