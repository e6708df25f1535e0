-- The engine's parts: the names of an order's job, and the refusals where an epoch is summed, a journal opened and brought to its end,
-- and its records written.
use Rattle.std.specs.Prelude.{◌≡◌, ◌⊎◌, ⊤, ℕ, ◌+◌, List, Option, None, Some, Result, Ok, Err}
use Rattle.dev_traits.specs.Told.{WhereTold}
use Rattle.station_stream.specs.declared.fault.StreamFault.{StreamFault}
use Rattle.station_stream.specs.declared.fault.StreamFault.TheVariants.{Read as StreamRead, Memory as StreamMemory}
use Rattle.checkpoint_journal.specs.declared.fault.OpenFault.{OpenFault}
use Rattle.checkpoint_journal.specs.declared.fault.OpenFault.TheVariants.{Disk as OpenDisk, Other as OpenOther, Memory as OpenMemory}
use Rattle.checkpoint_journal.specs.Kept.{KeepsMany}
use Rattle.checkpoint_journal.specs.Runs.{IsOurs}
use Rattle.piece_plan.specs.Epochs.{JobSizes}
use Rattle.journal_rounds.specs.declared.fault.ResumeFault.{ResumeFault}
use Rattle.journal_rounds.specs.declared.fault.ResumeFault.TheVariants.{Memory as ResumeMemory, Other as ResumeOther, Read as ResumeRead, Journal as ResumeJournal}
use Rattle.journal_rounds.specs.Refused.{IsLeftOther, IsJournalFault}
use Rattle.journal_records.specs.declared.fault.EmitFault.{EmitFault}
use Rattle.journal_records.specs.declared.fault.EmitFault.TheVariants.{Memory as EmitMemory, Journal as EmitJournal, Write as EmitWrite}
use Rattle.run_words.specs.declared.order.Order.{Order}
use Rattle.run_words.specs.declared.order.Order.TheVariants.{Run, Plain, Check, Status}
use Rattle.run_notes.specs.declared.refusal.Refusal.{Refusal}
use Rattle.run_notes.specs.declared.refusal.Refusal.TheVariants.{Memory, Words, Due as DueRefusal, Other, Read, Journal, Write}

-- the names of the job's text and of the schedule's, where an order is for a job
abbrev pub job_names : Order → Option (List ℕ × Option (List ℕ))
job_names (Run job vex epoch workers piece) = Some (job, vex)
job_names (Plain job vex) = Some (job, vex)
job_names (Check job vex epoch) = Some (job, vex)
job_names (Status job vex epoch) = Some (job, vex)
job_names _ = None

-- the samples of an epoch that an order asks for
abbrev pub epoch_asked : Order → Option ℕ
epoch_asked (Run job vex epoch workers piece) = epoch
epoch_asked (Check job vex epoch) = epoch
epoch_asked (Status job vex epoch) = epoch
epoch_asked _ = None

-- an epoch that is not summed
abbrev pub sums_refusal : StreamFault → Refusal
sums_refusal StreamRead = Read
sums_refusal StreamMemory = Memory

abbrev pub sums_answer : {T : Type 0} → Result T StreamFault → Result T Refusal
sums_answer (Ok x) = Ok x
sums_answer (Err fault) = Err (sums_refusal fault)

-- what an epoch is not summed for: want of memory, and a read fault
abbrev pub IsOfSums : Refusal → Type 0
IsOfSums Memory = ⊤
IsOfSums (Words fault) = ⊥
IsOfSums (DueRefusal due) = ⊥
IsOfSums (Other d) = ⊥
IsOfSums Read = ⊤
IsOfSums (Journal kept) = ⊥
IsOfSums Write = ⊥

-- a journal that is not opened
abbrev pub opening_refusal : OpenFault → Refusal
opening_refusal OpenDisk = Journal None
opening_refusal (OpenOther d) = Other d
opening_refusal OpenMemory = Memory

-- a journal that is not brought to its job's end
abbrev pub resume_refusal : ResumeFault → Refusal
resume_refusal ResumeMemory = Memory
resume_refusal (ResumeOther d) = Other d
resume_refusal ResumeRead = Read
resume_refusal (ResumeJournal kept) = Journal kept

abbrev pub resume_answer : {T : Type 0} → Result T ResumeFault → Result T Refusal
resume_answer (Ok x) = Ok x
resume_answer (Err fault) = Err (resume_refusal fault)

-- records that are not all written
abbrev pub emit_refusal : EmitFault → Refusal
emit_refusal EmitMemory = Memory
emit_refusal (EmitJournal kept) = Journal (Some kept)
emit_refusal EmitWrite = Write

abbrev pub emit_answer : {T : Type 0} → Result T EmitFault → Result T Refusal
emit_answer (Ok x) = Ok x
emit_answer (Err fault) = Err (emit_refusal fault)

-- What a read of the journal gave and gives, where it is not brought to the end. A journal of another job is refused as such and
-- left as it is, and a read fault comes only once the journal is found to be this job's.
abbrev pub IsRefusedFor : List ℕ → JobSizes → Option (List ℕ) → Option (List ℕ) → Refusal → Type 0
IsRefusedFor id job old new Memory = ⊤
IsRefusedFor id job old new (Words fault) = ⊥
IsRefusedFor id job old new (DueRefusal due) = ⊥
IsRefusedFor id job old new (Other d) = IsLeftOther id job old new d
IsRefusedFor id job old new Read = WhereTold old (IsOurs id job)
IsRefusedFor id job old new (Journal kept) = IsJournalFault id job old new kept
IsRefusedFor id job old new Write = ⊥

-- Where a fault names k epochs as kept, each image keeps k or k + 1.
abbrev pub KeepsNamed : List ℕ → JobSizes → (List ℕ → Type 0) → Refusal → Type 0
KeepsNamed id job images (Journal (Some k)) = (image : List ℕ) → images image → KeepsMany id job image k ⊎ KeepsMany id job image (k + 1)
KeepsNamed id job images _ = ⊤

-- Want of memory, before anything is appended; a fault of the journal, which names the epochs that it keeps; a write fault.
abbrev pub IsOfRecords : ℕ → Option (List ℕ) → Option (List ℕ) → Refusal → Type 0
IsOfRecords epochs old new Memory = new ≡ old
IsOfRecords epochs old new (Words fault) = ⊥
IsOfRecords epochs old new (DueRefusal due) = ⊥
IsOfRecords epochs old new (Other d) = ⊥
IsOfRecords epochs old new Read = ⊥
IsOfRecords epochs old new (Journal kept) = kept ≡ Some epochs
IsOfRecords epochs old new Write = ⊤
