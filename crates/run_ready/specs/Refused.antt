-- The refusals of what is found wrong.
use Rattle.std.specs.Prelude.{ℕ, List, Option, None, Some}
use Rattle.frame_index.specs.declared.fault.IndexFault.{IndexFault}
use Rattle.frame_index.specs.declared.fault.IndexFault.TheVariants.{Read, NoFrameAgrees, TooManySlots, Memory}
use Rattle.job_join.specs.declared.fault.JoinFault.{JoinFault}
use Rattle.job_join.specs.declared.fault.JoinFault.TheVariants.{Limit, Memory as JoinMemory}
use Rattle.run_notes.specs.declared.measure.Measure.TheVariants.{Job as OfJob}
use Rattle.run_notes.specs.declared.refusal.Due.TheVariants.{Join, Limit as DueLimit, Recording}
use Rattle.run_notes.specs.declared.refusal.Refusal.{Refusal}
use Rattle.run_notes.specs.declared.refusal.Refusal.TheVariants.{Memory as MemoryRefusal, Due as DueRefusal, Read as ReadRefusal}

-- the refusal for a cause for which a job and a schedule do not go together, which speaks of this name
abbrev pub join_refusal : JoinFault → List ℕ → Refusal
join_refusal (Limit quantity value) name = DueRefusal (DueLimit (OfJob quantity) value)
join_refusal JoinMemory name = MemoryRefusal
join_refusal fault name = DueRefusal (Join fault name)

-- the refusal for the recording of the station with this key, of which there is no index; none for too many slots, which are
-- counted over all stations before
abbrev pub recording_refusal : List ℕ → IndexFault → Option Refusal
recording_refusal key Read = Some ReadRefusal
recording_refusal key (NoFrameAgrees field) = Some (DueRefusal (Recording key field))
recording_refusal key TooManySlots = None
recording_refusal key Memory = Some MemoryRefusal
