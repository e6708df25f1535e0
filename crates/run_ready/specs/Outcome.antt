-- What a job comes to: its plan, or the answer of the first thing that is wrong.
use Rattle.std.specs.Prelude.{◌≡◌, ◌⊎◌, ℕ, nat_lt, if◌then◌else◌, Bool, true, false, List, [], length, slice_get, unwrap_or, Option, None, Some, Result, Ok, Err}
use Rattle.std.specs.Option.{option_map_or}
use Rattle.corr_model.specs.Files.{Files}
use Rattle.vex_reader.specs.declared.file.VexFile.{VexFile}
use Rattle.vex_reader.specs.declared.fault.VexFault.{VexFault}
use Rattle.vex_reader.specs.Grammar.{IsFileOf, IsVexFaultOf}
use Rattle.scan_list.specs.declared.scan.Scan.{Scan}
use Rattle.vex_schedule.specs.Schedule.{schedule_of}
use Rattle.job_text.specs.Job.{JobFields, StationFields}
use Rattle.job_text.specs.Answer.{job_in}
use Rattle.job_text.specs.Inline.{scans_of}
use Rattle.job_join.specs.declared.fault.Quantity.TheVariants.{Schedule, Job}
use Rattle.job_join.specs.declared.fault.JoinFault.{JoinFault}
use Rattle.job_join.specs.declared.fault.JoinFault.TheVariants.{UnknownScan, UnknownStation, RateDiffers, ChannelDiffers, ProductDiffers, FrameRate, NoModel, NoClock, Limit, Memory}
use Rattle.job_join.specs.Joined.{joined}
use Rattle.job_plan.specs.declared.plan.Plan.{Plan}
use Rattle.run_notes.specs.declared.measure.Measure.{Measure}
use Rattle.run_notes.specs.declared.measure.Measure.TheVariants.{Job as OfJob}
use Rattle.run_notes.specs.Answers.{Answer, vex_answer, schedule_answer, job_answer, join_answer, limit_answer, no_file_answer}
use Rattle.run_notes.specs.Refusals.{Outcomes}
use Rattle.run_ready.specs.Steps.{Is, Then, answered, unless}
use Rattle.job_plan.specs.declared.plan.StationPlan.{StationPlan}
use Rattle.run_ready.specs.Recordings.{files_answer, recordings_answer}

-- a text under a name: it is there, and has at most so many bytes
abbrev pub text_under : Files → List ℕ → Measure → ℕ → Result (List ℕ) Answer
text_under files name measure most = by (files name)
  where
    by : Option (List ℕ) → Result (List ℕ) Answer
    by None = Err (no_file_answer name)
    by (Some text) = if nat_lt most (length text) then Err (limit_answer measure (length text)) else Ok text

-- the scans of a schedule's text, or its fault
abbrev pub ScansOf : List ℕ → Outcomes (List Scan)
ScansOf text (Ok scans) = (file : VexFile) × IsFileOf text file × (schedule_of file ≡ Ok scans)
ScansOf text (Err answer) =
    ((fault : VexFault) × IsVexFaultOf text fault × (answer ≡ vex_answer fault))
    ⊎ ((file : VexFile) × IsFileOf text file × (answered schedule_answer (schedule_of file) ≡ Err answer))

-- the name of the take, the station or the scan that a cause speaks of
abbrev pub take_name : JobFields → ℕ → List ℕ
take_name job number = option_map_or (λ name. name) (slice_get job.takes number) []

abbrev pub key_name : JobFields → ℕ → List ℕ
key_name job number = option_map_or (λ (s : StationFields). s.key) (slice_get job.stations number) []

abbrev pub scan_name : List Scan → ℕ → List ℕ
scan_name scans number = option_map_or (λ (s : Scan). s.name) (slice_get scans number) []

-- the name that a cause speaks of, empty where it speaks of a quantity
abbrev pub cause_name : JobFields → List Scan → JoinFault → List ℕ
cause_name job scans (UnknownScan number) = take_name job number
cause_name job scans (UnknownStation number) = key_name job number
cause_name job scans (RateDiffers number) = scan_name scans number
cause_name job scans (ChannelDiffers number) = scan_name scans number
cause_name job scans (ProductDiffers number) = scan_name scans number
cause_name job scans (FrameRate number) = key_name job number
cause_name job scans (NoModel number) = key_name job number
cause_name job scans (NoClock number) = key_name job number
cause_name job scans (Limit quantity value) = []
cause_name job scans Memory = []

-- the answer of a cause for which a job and a schedule do not go together
abbrev pub cause_answer : JobFields → List Scan → JoinFault → Answer
cause_answer job scans (UnknownScan number) = join_answer (UnknownScan number) (take_name job number)
cause_answer job scans (UnknownStation number) = join_answer (UnknownStation number) (key_name job number)
cause_answer job scans (RateDiffers number) = join_answer (RateDiffers number) (scan_name scans number)
cause_answer job scans (ChannelDiffers number) = join_answer (ChannelDiffers number) (scan_name scans number)
cause_answer job scans (ProductDiffers number) = join_answer (ProductDiffers number) (scan_name scans number)
cause_answer job scans (FrameRate number) = join_answer (FrameRate number) (key_name job number)
cause_answer job scans (NoModel number) = join_answer (NoModel number) (key_name job number)
cause_answer job scans (NoClock number) = join_answer (NoClock number) (key_name job number)
cause_answer job scans (Limit quantity value) = limit_answer (OfJob quantity) value
cause_answer job scans Memory = join_answer Memory []

-- what is wrong with the files of a plan's stations, if anything is
abbrev pub Wrong : Type 0
Wrong = List StationPlan → Option Answer

-- The plan of a job and a schedule's scans, unless they do not go together or something is wrong with the files. Its epochs have as
-- many samples as is asked for, or else as the job's own line says.
abbrev pub Joins : Wrong → JobFields → Option ℕ → List Scan → Outcomes Plan
Joins wrong job epoch scans =
    Then (Is (answered (cause_answer job scans) (joined job (unwrap_or epoch job.epoch) scans)))
    (λ (plan : Plan). Is (unless (wrong plan.stations) plan))

-- the job of a text, read beside a schedule or, inline, without one
abbrev pub JobOf : Files → List ℕ → Bool → Outcomes JobFields
JobOf files name inline =
    Then (Is (text_under files name (OfJob Job) 4194304)) (λ text. Is (answered job_answer (job_in inline text)))

-- the scans of the schedule under a name
abbrev pub ScheduleOf : Files → List ℕ → Outcomes (List Scan)
ScheduleOf files name = Then (Is (text_under files name (OfJob Schedule) 8388608)) ScansOf

-- Without a schedule a job states its scans itself; else the schedule comes before the job.
abbrev pub PlanUnder : Files → Wrong → List ℕ → Option (List ℕ) → Option ℕ → Outcomes Plan
PlanUnder files wrong job None epoch = Then (JobOf files job true) (λ fields. Joins wrong fields epoch (scans_of fields))
PlanUnder files wrong job (Some vex) epoch =
    Then (ScheduleOf files vex) (λ scans. Then (JobOf files job false) (λ fields. Joins wrong fields epoch scans))

-- the plan of a job, as far as its texts show: nothing is wrong with the files of its stations
abbrev pub JoinOf : Files → List ℕ → Option (List ℕ) → Option ℕ → Outcomes Plan
JoinOf files job vex epoch = PlanUnder files (λ stations. None) job vex epoch

-- the plan of a job, as far as the lengths of its files show
abbrev pub SurveyOf : Files → List ℕ → Option (List ℕ) → Option ℕ → Outcomes Plan
SurveyOf files job vex epoch = PlanUnder files (files_answer files) job vex epoch

-- the plan of a job
abbrev pub PlanOf : Files → List ℕ → Option (List ℕ) → Option ℕ → Outcomes Plan
PlanOf files job vex epoch = PlanUnder files (recordings_answer files) job vex epoch
