-- What a call over devices in memory leaves.
use Rattle.std.specs.Prelude.{IfErr, codes}
use Rattle.std.proofs.Common.{◌≡◌, ◌∙◌, arith, inl, inr, ℕ, ◌^◌, ◌<◌, true, false, List, [], length, Option, Some, None, Result, Ok, Err, refl, sym, ap, subst}
use Rattle.std.proofs.lemmas.List.Elements.{All-nil}
use Rattle.dev_traits.specs.Told.{more, PrefixMore}
use Rattle.sink_text.specs.Appends.{Appends}
use Rattle.corr_model.specs.Files.{Files}
use Rattle.job_plan.specs.declared.plan.Plan.{Plan}
use Rattle.job_plan.specs.Output.{output}
use Rattle.journal_image.specs.declared.difference.Differs.{Differs}
use Rattle.journal_image.specs.Image.{KeptEpoch}
use Rattle.checkpoint_journal.specs.Finding.{IsOther}
use Rattle.checkpoint_journal.proofs.RunLemmas.{told_value}
use Rattle.vis_records.specs.Content.{Content, IsRecordFile}
use Rattle.vis_records.specs.Laws.{HasOneContent}
use Rattle.gen_summary.specs.Totals.{totals_text}
use Rattle.run_words.specs.declared.order.Order.{Order}
use Rattle.run_words.specs.declared.order.Order.TheVariants.{Run}
use Rattle.run_notes.specs.declared.refusal.Refusal.{Refusal}
use Rattle.run_notes.specs.declared.refusal.Refusal.TheVariants.{Memory, Words, Due as DueRefusal, Other, Read, Journal, Write}
use Rattle.run_notes.specs.Answers.{Answer, words_answer}
use Rattle.run_notes.specs.Refusals.{Outcomes}
use Rattle.run_notes.specs.Commands.{Tells, IsOfFilesOrOutput}
use Rattle.run_notes.specs.Counted.{CountsReads, CountsReadsBeside}
use Rattle.run_ready.specs.Steps.{answered}
use Rattle.run_ready.specs.Recordings.{recordings_answer}
use Rattle.run_ready.specs.Outcome.{PlanOf}
use Rattle.mem_devices.specs.MemShelfState.{bytes_under}
use Rattle.vlbi_core.specs.Calls.{Call, Task, OfJob, OfText, TaskFor, end_text, identity_for, sizes_for}
use Rattle.vlbi_core.specs.Texts.{IsSums}
use Rattle.vlbi_core.specs.Restart.{IsHonest}
use Rattle.sample_job.specs.Sample.{sample_files, sample_shelf, SampleOf}
use Rattle.vlbi_core.specs.Sample.{IsSampled, content_for, sample_text}
use Rattle.vlbi_core.specs.Faults.{written_with}
use Rattle.vlbi_core.specs.Steps.{OutcomeFrom, IsBehindWords, IsCauseOf, IsDone, Does, IsOfSample, IsOfMemory, IsOtherCause, IsPlanned}
use Rattle.vlbi_core.proofs.RecordFileLemmas.{output-IsRecordFile}
use Rattle.vlbi_core.proofs.TopLemmas.{OneOutcome}

-- a blank image is honest
blank-honest : (files : Files) (call : Call) → IsHonest files call []
blank-honest files call = record { kept = []; keeps = inl (refl, refl); sums = All-nil (λ (k : KeptEpoch). IsSums files call.plan k.epoch k.body) }

-- the task of a run
task-of : (files : Files) (order : Order) (task : Task) → OutcomeFrom (Ok order) files (Ok task) → TaskFor files order (Ok task)
task-of files order task p =
    let e : Ok p.0 ≡ Ok order = p.1 in
    let same : p.0 ≡ order = cc in
    subst (λ (o : Order). TaskFor files o (Ok task)) same p.2

-- the refusal of a run
refusal-of : (files : Files) (order : Order) (answer : Answer) → OutcomeFrom (Ok order) files (Err answer) → TaskFor files order (Err answer)
refusal-of files order answer (inl p) = absurd (by p)
  where
    by : Err answer ≡ answered words_answer (Ok order) → ⊥
    by e = cc
refusal-of files order answer (inr p) =
    let e : Ok p.0 ≡ Ok order = p.1 in
    let same : p.0 ≡ order = cc in
    subst (λ (o : Order). TaskFor files o (Err answer)) same p.2

module _ {D : Type 0} (seen : D → Option (List ℕ)) (moment : D → ℕ) (may_leave : D → ℕ → List ℕ → Type 0) where
  -- a run that was done over a blank journal appended what its plan comes to
  pub done-output : (files : Files) (job : List ℕ) (vex : Option (List ℕ)) (epoch : Option ℕ) (workers piece : ℕ) (before after : D) (old new : Option (List ℕ)) → seen before ≡ Some []
      → IsDone (OutcomeFrom (Ok (Run job vex epoch workers piece)) files) files seen moment may_leave before after old new
      → (plan : Plan) × PlanOf files job vex epoch (Ok plan) × (new ≡ more old (output plan files))
  done-output files job vex epoch workers piece before after old new blank done = by done.task refl (task-of files (Run job vex epoch workers piece) done.task done.outcome)
    where
      by : (task : Task) → done.task ≡ task → TaskFor files (Run job vex epoch workers piece) (Ok task)
          → (plan : Plan) × PlanOf files job vex epoch (Ok plan) × (new ≡ more old (output plan files))
      by (OfText text) same p = absurd p
      by (OfJob call) same p =
          let run : call.sums ≡ true = subst (λ (c : Call). c.sums ≡ true) (sym p.0) refl in (
            call.plan,
            p.1,
            told_value (seen before) (λ image. IsHonest files call image → new ≡ more old (end_text files call)) [] blank (done.sums call same run) (blank-honest files call)
                ∙ ap (more old) (ap (end_text files) p.0),
          )

-- over a blank journal no other job's is met
not-other : (outcomes : Outcomes Task) (files : Files) (before : Option (List ℕ)) (d : Differs) → before ≡ Some [] → IsOtherCause outcomes files before d → ⊥
not-other outcomes files before d blank cause =
    let there = told_value before (λ image. IsOther (identity_for files cause.call) (sizes_for cause.call) image d) [] blank cause.other in
    let never : true ≡ false = there.begun in
    cc

-- What refuses an order that no answer refuses, over a blank journal and a shelf whose count stays: want of memory, or a fault of the
-- journal or the output.
module _ (files : Files) (job : List ℕ) (vex : Option (List ℕ)) (epoch : Option ℕ) (workers piece : ℕ) (images : List ℕ → Type 0) (before after old new : Option (List ℕ)) where
  of-memory : (r : Refusal) → before ≡ Some [] → ((answer : Answer) → PlanOf files job vex epoch (Err answer) → ⊥) → IsBehindWords r
      → CountsReadsBeside {T = Unit {0}} 0 0 (Err r) → IsCauseOf r (OutcomeFrom (Ok (Run job vex epoch workers piece)) files) files images before after old new → IsOfMemory r
  of-memory Memory blank none behind reads cause = tt
  of-memory (Words fault) blank none behind reads cause = absurd behind
  of-memory (DueRefusal due) blank none behind reads cause = absurd (none _ (refusal-of files (Run job vex epoch workers piece) _ cause))
  of-memory (Other d) blank none behind reads cause = absurd (not-other (OutcomeFrom (Ok (Run job vex epoch workers piece)) files) files before d blank cause)
  of-memory Read blank none behind reads cause = absurd (omega (arith, reads))
  of-memory (Journal kept) blank none behind reads cause = tt
  of-memory Write blank none behind reads cause = tt

-- ---- the totals of a sample

-- what the totals are refused for, in the words of a command that leaves the journal alone
pub of-files : (result : Result (Unit {0}) Refusal) → IfErr result IsOfSample → IfErr result IsOfFilesOrOutput
of-files (Ok x) stage = tt
of-files (Err Memory) stage = tt
of-files (Err (Words fault)) stage = absurd stage
of-files (Err (DueRefusal due)) stage = absurd stage
of-files (Err (Other d)) stage = absurd stage
of-files (Err Read) stage = absurd stage
of-files (Err (Journal kept)) stage = absurd stage
of-files (Err Write) stage = tt

-- the totals of the content that was read are those of the plan's record file
pub sample-totals : {E : Type 0} (seed seconds : ℕ) (bytes : List ℕ) (content : Content) (old new : Option (List ℕ)) (before now : ℕ) (r : Result (Unit {0}) E)
    → ((text : List ℕ) → HasOneContent text) → length bytes < 2 ^ 64 → (s : IsSampled seed seconds bytes) → IsRecordFile bytes content
    → Appends old new (totals_text content (length bytes)) before now r
    → Tells (SampleOf seed seconds) (sample_text seed seconds) old new (written_with r)
sample-totals {E} seed seconds bytes content old new before now r law short s read appends = by r appends
  where
    files : Files
    files = sample_shelf seed seconds

    own : IsRecordFile bytes (content_for s.plan files)
    own = subst (λ (text : List ℕ). IsRecordFile text (content_for s.plan files)) (sym s.records) (output-IsRecordFile s.plan files s.ranges s.few)

    same : content ≡ content_for s.plan files
    same = law bytes content (content_for s.plan files) short read own

    text-is : totals_text content (length bytes) ≡ sample_text seed seconds s.plan
    text-is = ap (λ (c : Content). totals_text c (length bytes)) same ∙ ap (λ (text : List ℕ). totals_text (content_for s.plan files) (length text)) s.records

    by : (q : Result (Unit {0}) E) → Appends old new (totals_text content (length bytes)) before now q
        → Tells (SampleOf seed seconds) (sample_text seed seconds) old new (written_with q)
    by (Ok x) appends = record { done = (s.plan, s.outcome, appends.ok ∙ ap (more old) text-is); cause = tt; part = tt }
    by (Err e) appends = record {
      done = tt;
      cause = (s.plan, s.outcome);
      part = (s.plan, s.outcome, subst (λ (t : List ℕ). PrefixMore old t new) text-is appends.prefix);
    }

-- the totals of a sample's call are of no shelf
pub reads-same : (n : ℕ) (result : Result (Unit {0}) Refusal) → IfErr result IsOfSample → CountsReads n n result
reads-same n (Ok x) stage = refl
reads-same n (Err Memory) stage = refl
reads-same n (Err (Words fault)) stage = absurd stage
reads-same n (Err (DueRefusal due)) stage = absurd stage
reads-same n (Err (Other d)) stage = absurd stage
reads-same n (Err Read) stage = absurd stage
reads-same n (Err (Journal kept)) stage = absurd stage
reads-same n (Err Write) stage = refl

-- the names of a sample's job
pub record IsSampleJob (job : List ℕ) (vex : Option (List ℕ)) : Type 0 where
  pub job_is : job ≡ codes "job"
  pub alone : vex ≡ None

-- what holds of a sample's own job and files
own : (P : List ℕ → Option (List ℕ) → List (List ℕ × List ℕ) → Type 0) (seed seconds : ℕ) (job : List ℕ) (vex : Option (List ℕ)) (files : List (List ℕ × List ℕ))
    → IsSampleJob job vex → files ≡ sample_files seed seconds → P job vex files → P (codes "job") None (sample_files seed seconds)
own P seed seconds job vex files names same holds =
    subst (P (codes "job") None) same (subst (λ (v : Option (List ℕ)). P (codes "job") v files) names.alone (subst (λ (j : List ℕ). P j vex files) names.job_is holds))

module _ {D : Type 0} (seen : D → Option (List ℕ)) (moment : D → ℕ) (may_leave : D → ℕ → List ℕ → Type 0) (seed seconds workers piece : ℕ)
    (job : List ℕ) (vex : Option (List ℕ)) (files : List (List ℕ × List ℕ)) (before after : D) (names : IsSampleJob job vex) (same_files : files ≡ sample_files seed seconds)
    (blank : seen before ≡ Some []) where
  -- what was appended in memory is the record file of a plan of the sample
  sampled : OneOutcome → (bytes : List ℕ)
      → IsDone (OutcomeFrom (Ok (Run (codes "job") None None workers piece)) (sample_shelf seed seconds)) (sample_shelf seed seconds) seen moment may_leave before after (Some []) (Some bytes)
      → IsPlanned (SampleOf seed seconds) → IsSampled seed seconds bytes
  sampled law bytes done planned =
      let out = done-output seen moment may_leave (sample_shelf seed seconds) (codes "job") None None workers piece before after (Some []) (Some bytes) blank done in
      let one : Ok out.0 ≡ Ok planned.plan =
      law (sample_shelf seed seconds) (recordings_answer (sample_shelf seed seconds)) (codes "job") None None (Ok out.0) (Ok planned.plan) out.1 planned.outcome in
      let plans : out.0 ≡ planned.plan = cc in
      let told : Some bytes ≡ Some (output out.0 (sample_shelf seed seconds)) = out.2 in
      let text : bytes ≡ output out.0 (sample_shelf seed seconds) = cc in
      record {
        plan = planned.plan;
        outcome = planned.outcome;
        ranges = planned.ranges;
        few = planned.few;
        records = text ∙ ap (λ (plan : Plan). output plan (sample_shelf seed seconds)) plans;
      }

  pub sampled-does : OneOutcome → (old bytes items : List ℕ) (x : Unit {0}) → old ≡ [] → items ≡ bytes
      → Does (Ok (Run job vex None workers piece)) (bytes_under files) seen moment may_leave before after (Some old) (Some bytes) (Ok x)
      → IsPlanned (PlanOf (bytes_under files) job vex None) → IsSampled seed seconds items
  sampled-does law old bytes items x none same does planned =
      subst (IsSampled seed seconds) (sym same)
      (sampled law bytes
      (own (λ j v fs. IsDone (OutcomeFrom (Ok (Run j v None workers piece)) (bytes_under fs)) (bytes_under fs) seen moment may_leave before after (Some []) (Some bytes)) seed seconds job vex files names same_files
      (subst (λ (o : List ℕ). IsDone (OutcomeFrom (Ok (Run job vex None workers piece)) (bytes_under files)) (bytes_under files) seen moment may_leave before after (Some o) (Some bytes)) none does.done))
      (own (λ j v fs. IsPlanned (PlanOf (bytes_under fs) j v None)) seed seconds job vex files names same_files planned))

  pub refused-memory : (old new : Option (List ℕ)) (r : Refusal) → ((answer : Answer) → SampleOf seed seconds (Err answer) → ⊥) → IsBehindWords r
      → CountsReadsBeside {T = Unit {0}} 0 0 (Err r) → Does (Ok (Run job vex None workers piece)) (bytes_under files) seen moment may_leave before after old new (Err r) → IsOfMemory r
  refused-memory old new r none behind reads does =
      of-memory (sample_shelf seed seconds) (codes "job") None None workers piece (may_leave after (moment after)) (seen before) (seen after) old new r blank none behind reads
      (own (λ j v fs. IsCauseOf r (OutcomeFrom (Ok (Run j v None workers piece)) (bytes_under fs)) (bytes_under fs) (may_leave after (moment after)) (seen before) (seen after) old new)
      seed seconds job vex files names same_files does.cause)
