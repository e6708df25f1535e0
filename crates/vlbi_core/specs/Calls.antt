-- What words and files come to: a command with the plan of its job, the text that a command appends, or the answer of the first
-- thing that is wrong.
use Rattle.std.specs.Prelude.{◌≡◌, ℕ, Bool, true, false, ◌≤◌, List, length, map, unwrap_or, Option, None, Some, Result, Ok, Err, String, string_bytes}
use Rattle.std.specs.declared.alloc.Global.{Global}
use Rattle.corr_model.specs.Files.{Files}
use Rattle.job_plan.specs.declared.plan.Plan.{Plan}
use Rattle.job_plan.specs.Output.{output}
use Rattle.job_epochs.specs.Sizes.{sizes_of}
use Rattle.vis_records.specs.Dumped.{dump_text}
use Rattle.piece_plan.specs.Epochs.{JobSizes}
use Rattle.piece_plan.specs.Order.{CoverJob}
use Rattle.piece_plan.specs.Limited.{limited}
use Rattle.journal_image.specs.Image.{KeptEpoch, Keeps}
use Rattle.checkpoint_journal.specs.Identity.{shard_of}
use Rattle.checkpoint_journal.specs.Kept.{KeepsMany}
use Rattle.checkpoint_journal.specs.Runs.{IsOurs}
use Rattle.run_words.specs.declared.fault.WordsFault.{WordsFault}
use Rattle.run_words.specs.declared.order.Order.{Order}
use Rattle.run_words.specs.declared.order.Order.TheVariants.{Run, Plain, Check, Status, Dump, Gen, Fringe, Verify, Bins, Shard, Merge}
use Rattle.run_words.specs.Orders.{order_of}
use Rattle.run_notes.specs.Answers.{words_answer}
use Rattle.run_notes.specs.Refusals.{Outcomes}
use Rattle.run_ready.specs.Steps.{Is, Then, answered}
use Rattle.run_ready.specs.Outcome.{SurveyOf, PlanOf}
use Rattle.run_ready.specs.Identities.{identity_under}
use Rattle.run_dump.specs.Shown.{RecordsOf}
use Rattle.fringe_search.specs.Certificates.{lines_text}
use Rattle.run_fringe.specs.Searched.{FringeOf, VerifyOf, right_text}
use Rattle.run_bins.specs.Texts.{bin_output}
use Rattle.run_bins.specs.Outcome.{BinsOf}
use Rattle.run_part.specs.Outcome.{PartOf}
use Rattle.run_merge.specs.Outcome.{MergeOf, merged_text}
use Rattle.run_summary.specs.Summaries.{check_text, shard_line}
use Rattle.sample_job.specs.Sample.{SampleOf}
use Rattle.vlbi_core.specs.Sample.{sample_text}

-- the words as texts
abbrev pub texts_of : List (String Global) → List (List ℕ)
texts_of words = map string_bytes words

-- the order that words give
abbrev pub order_in : List (List ℕ) → Result Order WordsFault
order_in texts = order_of texts

-- an order that sums into the journal: of `run`, and of `shard`
abbrev pub is_writer : Order → Bool
is_writer (Run job vex epoch workers piece) = true
is_writer (Shard job vex epoch workers piece from to) = true
is_writer _ = false

-- a part of a job: its integrations from one number up to, not including, another
pub record Part : Type 0 where
  pub from : ℕ
  pub to : ℕ

-- A call on a job, or on a part of one, and its journal: whether it sums what the journal lacks, the names of the job's text and of the
-- schedule's, the samples of an epoch that are asked for, the part, where it is not all of the job, and the job's plan.
pub record Call : Type 0 where
  pub sums : Bool
  pub job : List ℕ
  pub vex : Option (List ℕ)
  pub epoch : Option ℕ
  pub part : Option Part
  pub plan : Plan

abbrev pub call_of : Bool → List ℕ → Option (List ℕ) → Option ℕ → Option Part → Plan → Call
call_of sums job vex epoch part plan = record { sums = sums; job = job; vex = vex; epoch = epoch; part = part; plan = plan }

-- What a call works on: a job and its journal, or the text that a command appends which leaves the journal alone.
pub data Task : Type 0 where
  OfJob : Call → Task
  OfText : List ℕ → Task

-- the task of a command on a job and its journal, by the plans that its files come to
abbrev pub JobFor : Bool → List ℕ → Option (List ℕ) → Option ℕ → Option Part → Outcomes Plan → Outcomes Task
JobFor sums job vex epoch part plans (Ok (OfJob call)) = (call ≡ call_of sums job vex epoch part call.plan) × plans (Ok call.plan)
JobFor sums job vex epoch part plans (Ok (OfText text)) = ⊥
JobFor sums job vex epoch part plans (Err answer) = plans (Err answer)

-- the task of a command that appends a text, by what its files come to
abbrev pub TextFor : {A : Type 0} → Outcomes A → (A → List ℕ) → Outcomes Task
TextFor {A} outcomes text (Ok (OfJob call)) = ⊥
TextFor {A} outcomes text (Ok (OfText written)) = (x : A) × outcomes (Ok x) × (written ≡ text x)
TextFor {A} outcomes text (Err answer) = outcomes (Err answer)

-- The task of an order. `status` and `merge` look at the lengths of the recordings alone, and `gen` has its own job and recordings.
abbrev pub TaskFor : Files → Order → Outcomes Task
TaskFor files (Run job vex epoch workers piece) = JobFor true job vex epoch None (PlanOf files job vex epoch)
TaskFor files (Status job vex epoch) = JobFor false job vex epoch None (SurveyOf files job vex epoch)
TaskFor files (Plain job vex) = TextFor (PlanOf files job vex None) (λ plan. output plan files)
TaskFor files (Check job vex epoch) = TextFor (PlanOf files job vex epoch) (λ plan. check_text plan (unwrap_or epoch plan.epoch) files)
TaskFor files (Dump file) = TextFor (RecordsOf files file) dump_text
TaskFor files (Gen seed seconds workers piece) = TextFor (SampleOf seed seconds) (sample_text seed seconds)
TaskFor files (Fringe file rates divide) = TextFor (FringeOf files file rates divide) lines_text
TaskFor files (Verify file certificate) = TextFor (VerifyOf files file certificate) right_text
TaskFor files (Bins job vex phase workers piece) = TextFor (BinsOf files job vex phase) (λ x. bin_output x files)
TaskFor files (Shard job vex epoch workers piece from to) = JobFor true job vex epoch (Some (record { from = from; to = to })) (PartOf files job vex epoch to)
TaskFor files (Merge job vex names) = TextFor (MergeOf files job vex names) merged_text

-- what words and files come to
abbrev pub OutcomeOf : List (List ℕ) → Files → Outcomes Task
OutcomeOf texts files = Then (Is (answered words_answer (order_in texts))) (TaskFor files)

-- what a part of a job is cut by, and its identity, by those of the job
abbrev pub part_sizes : Option Part → JobSizes → JobSizes
part_sizes None job = job
part_sizes (Some part) job = limited job part.from part.to

abbrev pub part_identity : Option Part → List ℕ → List ℕ
part_identity None id = id
part_identity (Some part) id = shard_of id part.from part.to

-- the identity of a call's job or part, what that is cut by, and the samples of an epoch in force
abbrev pub identity_for : Files → Call → List ℕ
identity_for files call = part_identity call.part (identity_under files call.job call.vex call.plan)

abbrev pub sizes_for : Call → JobSizes
sizes_for call = part_sizes call.part (sizes_of call.plan)

abbrev pub epoch_for : Call → ℕ
epoch_for call = unwrap_or call.epoch call.plan.epoch

-- what a call that sums appends where its journal is honest and covers the job: the record file of the direct sums, or of a part the line
-- that says so
abbrev pub end_text : Files → Call → List ℕ
end_text files call = by call.part
  where
    by : Option Part → List ℕ
    by None = output call.plan files
    by (Some part) = shard_line part.from part.to

-- the epochs that an image of the journal keeps for a call
abbrev pub KeepsFor : Files → Call → List ℕ → List KeptEpoch → Type 0
KeepsFor files call image kept = Keeps (identity_for files call) (sizes_for call) image kept

-- an image that is blank or of the job's form, so that it keeps epochs
abbrev pub IsOursFor : Files → Call → List ℕ → Type 0
IsOursFor files call image = IsOurs (identity_for files call) (sizes_for call) image

-- an image that keeps so many epochs, in all
abbrev pub KeepsManyFor : Files → Call → List ℕ → ℕ → Type 0
KeepsManyFor files call image n = KeepsMany (identity_for files call) (sizes_for call) image n

-- an image that keeps so many at least
pub record KeepsAtLeast (files : Files) (call : Call) (image : List ℕ) (n : ℕ) : Type 0 where
  pub kept : List KeptEpoch
  pub keeps : KeepsFor files call image kept
  pub many : n ≤ length kept

-- an image that keeps epochs which cover the job or the part
pub record KeepsAll (files : Files) (call : Call) (image : List ℕ) : Type 0 where
  pub kept : List KeptEpoch
  pub keeps : KeepsFor files call image kept
  pub all : CoverJob (sizes_for call) (map (λ (k : KeptEpoch). k.epoch) kept)
