-- What the file under a name comes to where it is read as a record file.
use Rattle.std.specs.Prelude.{◌≡◌, ℕ, List, length, Some, Ok, Err}
use Rattle.corr_model.specs.Files.{Files}
use Rattle.job_join.specs.declared.fault.Quantity.TheVariants.{Records}
use Rattle.vis_records.specs.declared.fault.VisFault.{VisFault}
use Rattle.vis_records.specs.declared.fault.VisKind.{VisKind}
use Rattle.vis_records.specs.declared.fault.VisKind.TheVariants.{Memory}
use Rattle.vis_records.specs.Content.{Content, IsRecordFile}
use Rattle.vis_records.specs.Reading.{record_file, fault_of}
use Rattle.run_notes.specs.declared.measure.Measure.TheVariants.{Job as OfJob}
use Rattle.run_notes.specs.declared.refusal.Due.TheVariants.{Records as DueRecords}
use Rattle.run_notes.specs.declared.refusal.Refusal.{Refusal}
use Rattle.run_notes.specs.declared.refusal.Refusal.TheVariants.{Memory as MemoryRefusal, Due as DueRefusal}
use Rattle.run_notes.specs.Answers.{records_answer}
use Rattle.run_notes.specs.Refusals.{Outcomes}
use Rattle.run_ready.specs.Steps.{Is, Then}
use Rattle.run_ready.specs.Outcome.{text_under}

-- the content of a record file's text, or the answer of the first rule that a text breaks
abbrev pub ContentOf : List ℕ → Outcomes Content
ContentOf text (Ok content) = IsRecordFile text content
ContentOf text (Err answer) =
    (fault : VisFault) × (fault_of (length text) (record_file text) ≡ Some fault) × (answer ≡ records_answer fault)

-- the refusal of a fault: want of memory, or a verdict
abbrev pub refusal_by : VisKind → VisFault → Refusal
refusal_by Memory fault = MemoryRefusal
refusal_by _ fault = DueRefusal (DueRecords fault)

abbrev pub records_refusal : VisFault → Refusal
records_refusal fault = refusal_by fault.kind fault

-- The file under a name: it is there, it has at most 2^30 bytes, and these are a record file.
abbrev pub RecordsOf : Files → List ℕ → Outcomes Content
RecordsOf files name = Then (Is (text_under files name (OfJob Records) 1073741824)) ContentOf
