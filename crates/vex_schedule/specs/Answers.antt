-- The faults of a schedule, and what a call answers.
use Rattle.std.specs.Prelude.{ℕ, Option, Result}
use Rattle.read_steps.specs.Steps.{or_fault}
use Rattle.read_steps.specs.Steps as steps
use Rattle.vex_schedule.specs.declared.fault.SchedKind.{SchedKind}
use Rattle.vex_schedule.specs.declared.fault.SchedKind.TheVariants.{Memory}
use Rattle.vex_schedule.specs.declared.fault.SchedFault.{SchedFault}

-- the fault of a kind at a place
abbrev pub fault : SchedKind → ℕ → SchedFault
fault kind at = record { kind = kind; at = at }

-- what is there, or the fault of a kind at a place where nothing is
abbrev pub given : {A : Type 0} → Option A → SchedKind → ℕ → Result A SchedFault
given o kind at = or_fault o (fault kind at)

-- want of memory, which is at no place of a file
abbrev pub out_of_memory : SchedFault
out_of_memory = fault Memory 0

-- the answer, seen by `view`, is the wanted one, or want of memory
abbrev pub Gives : {X Y : Type 0} → (X → Y) → Result X SchedFault → Result Y SchedFault → Type 0
Gives = steps.Gives out_of_memory
