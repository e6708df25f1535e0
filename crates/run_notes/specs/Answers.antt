-- What a call that is refused answers: its status, and its line on the notes.
use Rattle.std.specs.Prelude.{ℕ, ℤ, List, [], ◌∷◌, ◌++◌, Option, Some, None, codes, decimal}
use Rattle.std.specs.Fmt.{signed_decimal}
use Rattle.hex.specs.Hex.{encode_lower}
use Rattle.corr_model.specs.declared.cell.Cell.{Cell}
use Rattle.vdif_frame.specs.declared.shape.Field.{Field}
use Rattle.vdif_frame.specs.Agreement.{field_name}
use Rattle.run_words.specs.declared.fault.WordsFault.{WordsFault}
use Rattle.run_words.specs.Faults.{fault_name as words_fault_name}
use Rattle.vex_reader.specs.declared.fault.VexFault.{VexFault}
use Rattle.vex_reader.specs.KindName.{kind_name as vex_fault_name}
use Rattle.vex_schedule.specs.declared.fault.SchedFault.{SchedFault}
use Rattle.vex_schedule.specs.KindName.{kind_name as schedule_fault_name}
use Rattle.job_text.specs.declared.fault.JobFault.{JobFault}
use Rattle.job_text.specs.KindName.{kind_name as job_fault_name}
use Rattle.job_join.specs.declared.fault.JoinFault.{JoinFault}
use Rattle.journal_image.specs.declared.difference.Differs.{Differs}
use Rattle.pulsar_bins.specs.declared.fault.BinsFault.{BinsFault}
use Rattle.pulsar_bins.specs.KindName.{kind_name as bins_fault_name}
use Rattle.vis_records.specs.declared.fault.VisFault.{VisFault}
use Rattle.vis_records.specs.KindName.{kind_name as records_fault_name}
use Rattle.job_join.specs.KindName.{fault_name as join_fault_name}
use Rattle.run_notes.specs.declared.measure.Measure.{Measure}
use Rattle.run_notes.specs.Measures.{measure_name}

pub record Answer : Type 0 where
  pub status : ℕ
  pub note : List ℕ

-- texts one after another, and the end of a line
abbrev pub joined : List (List ℕ) → List ℕ
joined [] = 10 ∷ []
joined (text ∷ texts) = text ++ joined texts

-- an answer whose line has these texts
abbrev pub answer : ℕ → List (List ℕ) → Answer
answer status texts = record { status = status; note = codes "vlbi: " ++ joined texts }

abbrev pub memory_answer : Answer
memory_answer = answer 1 (codes "out of memory" ∷ [])

abbrev pub words_answer : WordsFault → Answer
words_answer fault = answer 2 (codes "words: " ∷ words_fault_name fault ∷ [])

-- a fault at a byte of the schedule
abbrev pub byte_answer : List ℕ → ℕ → Answer
byte_answer name at = answer 3 (codes "schedule: " ∷ name ∷ codes " at byte " ∷ decimal at ∷ [])

abbrev pub vex_answer : VexFault → Answer
vex_answer fault = byte_answer (vex_fault_name fault.kind) fault.at

abbrev pub schedule_answer : SchedFault → Answer
schedule_answer fault = byte_answer (schedule_fault_name fault.kind) fault.at

abbrev pub job_answer : JobFault → Answer
job_answer fault = answer 4 (codes "job: " ∷ job_fault_name fault.kind ∷ codes " in line " ∷ decimal fault.line ∷ [])

-- a cause for which a job and a schedule do not go together, of the take, station or scan of this name
abbrev pub join_answer : JoinFault → List ℕ → Answer
join_answer fault name = answer 4 (codes "job: " ∷ join_fault_name fault ∷ codes " for " ∷ name ∷ [])

-- a station whose recording has slots none of which agrees, and the field in which the first one differs
abbrev pub recording_answer : List ℕ → Field → Answer
recording_answer key field = answer 5 (codes "recording: " ∷ key ∷ codes " " ∷ field_name field ∷ [])

-- a text that is no record file
abbrev pub records_answer : VisFault → Answer
records_answer fault = answer 5 (codes "records: " ∷ records_fault_name fault.kind ∷ codes " at byte " ∷ decimal fault.at ∷ [])

abbrev pub limit_answer : Measure → ℕ → Answer
limit_answer measure value = answer 6 (codes "limit: " ∷ measure_name measure ∷ codes " " ∷ decimal value ∷ [])

abbrev pub read_answer : Answer
read_answer = answer 7 (codes "read fault" ∷ [])

-- a fault of the journal, with the number of epochs that are kept where it is known
abbrev pub journal_answer : Option ℕ → Answer
journal_answer None = answer 8 (codes "journal fault" ∷ [])
journal_answer (Some kept) = answer 8 (codes "journal fault, " ∷ decimal kept ∷ codes " epochs kept" ∷ [])

abbrev pub write_answer : Answer
write_answer = answer 9 (codes "write fault" ∷ [])

abbrev pub no_file_answer : List ℕ → Answer
no_file_answer name = answer 11 (codes "no file " ∷ name ∷ [])

-- a byte in two hexadecimal digits, or `none` where there is no byte
abbrev pub byte_or_none : Option ℕ → List ℕ
byte_or_none None = codes "none"
byte_or_none (Some byte) = encode_lower (byte ∷ [])

-- a journal of another job: the place at which it differs from this job's, and both bytes there
abbrev pub other_answer : Differs → Answer
other_answer d =
    answer 10
    (codes "other journal at byte " ∷ decimal d.at ∷ codes ": kept " ∷ byte_or_none d.kept ∷ codes ", ours " ∷ byte_or_none d.ours ∷ [])

-- a text that is no right certificate of a record file, and the byte at which it is wrong
abbrev pub certificate_answer : ℕ → Answer
certificate_answer at = answer 13 (codes "certificate at byte " ∷ decimal at ∷ [])

-- a text of a pulse's phase that has no bins
abbrev pub bins_answer : BinsFault → Answer
bins_answer fault = answer 12 (codes "bins: " ∷ bins_fault_name fault.kind ∷ codes " in line " ∷ decimal fault.line ∷ [])

-- a scan that has a sample at which the pulse has no phase
abbrev pub no_phase_answer : List ℕ → Answer
no_phase_answer scan = answer 12 (codes "bins: NoPhase for " ∷ scan ∷ [])

-- a file that is no journal of a part of the job, and the byte at which it differs
abbrev pub not_shard_answer : List ℕ → ℕ → Answer
not_shard_answer name at = answer 14 (codes "merge: NotShard " ∷ name ∷ codes " at byte " ∷ decimal at ∷ [])

-- an integration that no journal covers
abbrev pub uncovered_answer : ℕ → Answer
uncovered_answer integration = answer 14 (codes "merge: Uncovered " ∷ decimal integration ∷ [])

-- the numbers of a cell, each behind a space
abbrev pub cell_text : Cell → List ℕ
cell_text cell =
    codes " " ++ (signed_decimal cell.re ++ (codes " " ++ (signed_decimal cell.im ++ (codes " " ++ decimal cell.count))))

-- the begin of a line that tells where two journals differ: the integration, the group and the lag
abbrev pub place_text : ℕ → ℕ → ℤ → List ℕ
place_text integration group lag =
    codes "vlbi: merge: Differs " ++ (decimal integration ++ (codes " " ++ (decimal group ++ (codes " " ++ signed_decimal lag))))

-- an integration in which two journals differ: the group, the lag, the cell in the first journal and the cell in the other
abbrev pub differs_answer : ℕ → ℕ → ℤ → Cell → Cell → Answer
differs_answer integration group lag first other =
    record { status = 14; note = place_text integration group lag ++ (cell_text first ++ (cell_text other ++ (10 ∷ []))) }
