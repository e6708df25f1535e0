-- What each command did.
use Rattle.std.specs.Prelude.{IfErr, unwrap_or}
use Rattle.std.proofs.Common.{◌≡◌, ◌∙◌, arith, inl, inr, ℕ, Bool, true, false, List, Option, Some, None, Result, Ok, Err, refl, sym, ap, subst}
use Rattle.dev_traits.specs.Told.{more, PrefixMore, WhereTold}
use Rattle.sink_text.specs.Appends.{Appends}
use Rattle.corr_model.specs.Files.{Files}
use Rattle.job_plan.specs.declared.plan.Plan.{Plan}
use Rattle.checkpoint_journal.specs.Runs.{Looks}
use Rattle.checkpoint_journal.proofs.RunLemmas.{looks_none}
use Rattle.run_words.specs.declared.fault.WordsFault.{WordsFault}
use Rattle.run_words.specs.declared.order.Order.{Order}
use Rattle.run_words.specs.declared.order.Order.TheVariants.{Run, Status, Shard}
use Rattle.run_notes.specs.declared.refusal.Refusal.{Refusal}
use Rattle.run_notes.specs.declared.refusal.Refusal.TheVariants.{Memory, Words, Due as DueRefusal, Other, Read, Journal, Write}
use Rattle.run_notes.specs.Answers.{Answer, words_answer}
use Rattle.run_notes.specs.Refusals.{Outcomes, IsCause, WhereVerdict}
use Rattle.run_notes.specs.Commands.{IsPartOf, IsPartlyOf, Tells, Shows, IsOfFilesOrOutput}
use Rattle.run_notes.specs.Counted.{CountsReads, CountsReadsBeside}
use Rattle.run_notes.proofs.CommandLemmas.{shows-tells}
use Rattle.run_ready.specs.Steps.{answered}
use Rattle.run_ready.specs.Outcome.{SurveyOf, PlanOf}
use Rattle.run_ready.specs.Stage.{IsOfFiles}
use Rattle.station_stream.specs.declared.recording.Recording.{Recording as StationRecording}
use Rattle.station_stream.specs.Recorded.{AreRecorded}
use Rattle.run_summary.specs.Summaries.{check_text}
use Rattle.vis_writer.proofs.WritesLemmas.{where_then}
use Rattle.run_part.specs.Outcome.{PartOf}
use Rattle.vlbi_core.specs.Calls.{Call, call_of, Task, OfJob, OfText, TextFor, TaskFor, is_writer}
use Rattle.vlbi_core.specs.Texts.{IsPart}
use Rattle.vlbi_core.specs.Faults.{written_with}
use Rattle.vlbi_core.specs.Steps.{OutcomeFrom, IsOfWords, IsBehindWords, IsUnnumbered, MatchDue, MatchEarly, IsCauseOf, IsPartly, Does, MatchVerdict, Leaves}

-- what an order of a call on a job comes to, and one of `status`
pub run-planned : (files : Files) (order : Order) (call : Call) → TaskFor files order (Ok (OfJob call)) → OutcomeFrom (Ok order) files (Ok (OfJob call))
run-planned files order call there = (order, refl, there)

pub status-planned : (files : Files) (job : List ℕ) (vex : Option (List ℕ)) (epoch : Option ℕ) (plan : Plan) → SurveyOf files job vex epoch (Ok plan)
    → OutcomeFrom (Ok (Status job vex epoch)) files (Ok (OfJob (call_of false job vex epoch None plan)))
status-planned files job vex epoch plan there = run-planned files (Status job vex epoch) (call_of false job vex epoch None plan) (refl, there)

-- an order that is refused where its files come to no plan
abbrev pub IsRefusedBy : Files → Order → Outcomes Plan → Type 0
IsRefusedBy files order plans = (answer : Answer) → plans (Err answer) → TaskFor files order (Err answer)

pub not_both : (b : Bool) → b ≡ true → b ≡ false → ⊥
not_both b first second = cc

pub one-job : (a b : Call) → OfJob a ≡ OfJob b → a ≡ b
one-job a b same = cc

-- a text is no job
no-job : (text : List ℕ) (call : Call) → OfText text ≡ OfJob call → ⊥
no-job text call same = cc

-- ---- counts

-- what a call counts that does not write the journal
pub reads-beside : {T : Type 0} (before now : ℕ) (result : Result T Refusal) → CountsReads before now result → CountsReadsBeside before now result
reads-beside before now (Ok x) reads = reads
reads-beside before now (Err Memory) reads = reads
reads-beside before now (Err (Words fault)) reads = reads
reads-beside before now (Err (DueRefusal due)) reads = reads
reads-beside before now (Err (Other d)) reads = reads
reads-beside before now (Err Read) reads = reads
reads-beside before now (Err (Journal kept)) reads = omega (arith, reads)
reads-beside before now (Err Write) reads = reads

-- ---- numbers of epochs

-- a command that leaves the journal alone names none
pub files-unnumbered : (result : Result (Unit {0}) Refusal) → IfErr result IsOfFilesOrOutput → IfErr result IsUnnumbered
files-unnumbered (Ok x) stage = tt
files-unnumbered (Err Memory) stage = tt
files-unnumbered (Err (Words fault)) stage = absurd stage
files-unnumbered (Err (DueRefusal due)) stage = tt
files-unnumbered (Err (Other d)) stage = absurd stage
files-unnumbered (Err Read) stage = tt
files-unnumbered (Err (Journal kept)) stage = absurd stage
files-unnumbered (Err Write) stage = tt

-- nor do words that give no order
pub words-unnumbered : (wanted : Result Order WordsFault) (r : Refusal) → IsOfWords wanted r → IsUnnumbered r
words-unnumbered wanted Memory of = tt
words-unnumbered wanted (Words fault) of = tt
words-unnumbered wanted (DueRefusal due) of = absurd of
words-unnumbered wanted (Other d) of = absurd of
words-unnumbered wanted Read of = absurd of
words-unnumbered wanted (Journal kept) of = absurd of
words-unnumbered wanted Write of = absurd of

-- ---- causes

words-cause : (wanted : Result Order WordsFault) (files : Files) (images : List ℕ → Type 0) (before after old new : Option (List ℕ)) (r : Refusal)
    → IsOfWords wanted r → IsCauseOf r (OutcomeFrom wanted files) files images before after old new
words-cause wanted files images before after old new Memory of = tt
words-cause wanted files images before after old new (Words fault) of = inl (sym (ap (answered words_answer) of))
words-cause wanted files images before after old new (DueRefusal due) of = absurd of
words-cause wanted files images before after old new (Other d) of = absurd of
words-cause wanted files images before after old new Read of = absurd of
words-cause wanted files images before after old new (Journal kept) of = absurd of
words-cause wanted files images before after old new Write of = absurd of

files-cause : (files : Files) (order : Order) (plans : Outcomes Plan) → IsRefusedBy files order plans → (images : List ℕ → Type 0) (before after old new : Option (List ℕ)) (r : Refusal)
    → IsOfFiles r → IsCause r plans → IsCauseOf r (OutcomeFrom (Ok order) files) files images before after old new
files-cause files order plans refused images before after old new Memory stage cause = tt
files-cause files order plans refused images before after old new (Words fault) stage cause = absurd stage
files-cause files order plans refused images before after old new (DueRefusal due) stage cause = inr (order, refl, refused _ cause)
files-cause files order plans refused images before after old new (Other d) stage cause = absurd stage
files-cause files order plans refused images before after old new Read stage cause = tt
files-cause files order plans refused images before after old new (Journal kept) stage cause = absurd stage
files-cause files order plans refused images before after old new Write stage cause = absurd stage

-- a call that was refused before its output
abbrev pub NoWrite : Refusal → Type 0
NoWrite Write = ⊥
NoWrite _ = Unit {0}

nothing-partly : (outcomes : Outcomes Task) (files : Files) (before after old : Option (List ℕ)) (r : Refusal) → NoWrite r
    → IsPartly r outcomes files before after old old
nothing-partly outcomes files before after old Memory no_write = inl refl
nothing-partly outcomes files before after old (Words fault) no_write = refl
nothing-partly outcomes files before after old (DueRefusal due) no_write = refl
nothing-partly outcomes files before after old (Other d) no_write = refl
nothing-partly outcomes files before after old Read no_write = inl refl
nothing-partly outcomes files before after old (Journal kept) no_write = inl refl
nothing-partly outcomes files before after old Write no_write = absurd no_write

words-NoWrite : (wanted : Result Order WordsFault) (r : Refusal) → IsOfWords wanted r → NoWrite r
words-NoWrite wanted Memory of = tt
words-NoWrite wanted (Words fault) of = tt
words-NoWrite wanted (DueRefusal due) of = tt
words-NoWrite wanted (Other d) of = tt
words-NoWrite wanted Read of = absurd of
words-NoWrite wanted (Journal kept) of = absurd of
words-NoWrite wanted Write of = absurd of

files-NoWrite : (r : Refusal) → IsOfFiles r → NoWrite r
files-NoWrite Memory stage = tt
files-NoWrite (Words fault) stage = tt
files-NoWrite (DueRefusal due) stage = tt
files-NoWrite (Other d) stage = tt
files-NoWrite Read stage = tt
files-NoWrite (Journal kept) stage = absurd stage
files-NoWrite Write stage = absurd stage

pub files-behind : (r : Refusal) → IsOfFiles r → IsBehindWords r
files-behind (Words fault) stage = absurd stage
files-behind _ stage = tt

pub due-same : (old : Option (List ℕ)) (r : Refusal) → MatchDue r (old ≡ old)
due-same old (Words fault) = refl
due-same old (DueRefusal due) = refl
due-same old (Other d) = refl
due-same old _ = tt

-- a verdict on files is all that a command which leaves the journal alone may be refused for of what is due
pub verdict-due : (old new : Option (List ℕ)) (result : Result (Unit {0}) Refusal) → IfErr result IsOfFilesOrOutput
    → IfErr result (λ r. WhereVerdict r (new ≡ old)) → IfErr result (λ r. MatchDue r (new ≡ old))
verdict-due old new (Ok x) stage nothing = tt
verdict-due old new (Err Memory) stage nothing = tt
verdict-due old new (Err (Words fault)) stage nothing = absurd stage
verdict-due old new (Err (DueRefusal due)) stage nothing = nothing
verdict-due old new (Err (Other d)) stage nothing = absurd stage
verdict-due old new (Err Read) stage nothing = tt
verdict-due old new (Err (Journal kept)) stage nothing = tt
verdict-due old new (Err Write) stage nothing = tt

pub early-same : (old : Option (List ℕ)) (r : Refusal) → MatchEarly r (old ≡ old)
early-same old Memory = refl
early-same old Read = refl
early-same old _ = tt

module _ {D : Type 0} (seen : D → Option (List ℕ)) (moment : D → ℕ) (may_leave : D → ℕ → List ℕ → Type 0) where
  -- ---- before anything is touched
  verdict-none : (d : D) (r : Refusal) → MatchVerdict r (seen d ≡ seen d) (Looks seen moment may_leave d d)
  verdict-none d Memory = tt
  verdict-none d (Words fault) = looks_none seen moment may_leave d
  verdict-none d (DueRefusal due) = looks_none seen moment may_leave d
  verdict-none d (Other x) = refl
  verdict-none d Read = tt
  verdict-none d (Journal kept) = tt
  verdict-none d Write = tt

  pub leaves-none : (wanted : Result Order WordsFault) (d : D) (old : Option (List ℕ)) (r : Refusal) → Leaves wanted seen moment may_leave d d old old (Err r)
  leaves-none wanted d old r = record {
    nothing = due-same old r;
    whole = λ _. early-same old r;
    untouched = λ _. looks_none seen moment may_leave d;
    verdict = verdict-none d r;
  }

  pub does-words : (wanted : Result Order WordsFault) (files : Files) (d : D) (old : Option (List ℕ)) (r : Refusal) → IsOfWords wanted r
      → Does wanted files seen moment may_leave d d old old (Err r)
  does-words wanted files d old r of = record {
    goes = inl (looks_none seen moment may_leave d);
    done = tt;
    cause = words-cause wanted files (may_leave d (moment d)) (seen d) (seen d) old old r of;
    part = nothing-partly (OutcomeFrom wanted files) files (seen d) (seen d) old r (words-NoWrite wanted r of);
  }

  does-files : (files : Files) (order : Order) (plans : Outcomes Plan) → IsRefusedBy files order plans → (d : D) (old : Option (List ℕ)) (r : Refusal) → IsOfFiles r → IsCause r plans
      → Does (Ok order) files seen moment may_leave d d old old (Err r)
  does-files files order plans refused d old r stage cause = record {
    goes = inl (looks_none seen moment may_leave d);
    done = tt;
    cause = files-cause files order plans refused (may_leave d (moment d)) (seen d) (seen d) old old r stage cause;
    part = nothing-partly (OutcomeFrom (Ok order) files) files (seen d) (seen d) old r (files-NoWrite r stage);
  }

  pub run-files : (files : Files) (job : List ℕ) (vex : Option (List ℕ)) (epoch : Option ℕ) (workers piece : ℕ) (d : D) (old : Option (List ℕ)) (r : Refusal) → IsOfFiles r
      → IsCause r (PlanOf files job vex epoch) → Does (Ok (Run job vex epoch workers piece)) files seen moment may_leave d d old old (Err r)
  run-files files job vex epoch workers piece = does-files files (Run job vex epoch workers piece) (PlanOf files job vex epoch) (λ answer p. p)

  pub status-files : (files : Files) (job : List ℕ) (vex : Option (List ℕ)) (epoch : Option ℕ) (d : D) (old : Option (List ℕ)) (r : Refusal) → IsOfFiles r
      → IsCause r (SurveyOf files job vex epoch) → Does (Ok (Status job vex epoch)) files seen moment may_leave d d old old (Err r)
  status-files files job vex epoch = does-files files (Status job vex epoch) (SurveyOf files job vex epoch) (λ answer p. p)

  pub shard-files : (files : Files) (job : List ℕ) (vex : Option (List ℕ)) (epoch : Option ℕ) (workers piece from to : ℕ) (d : D) (old : Option (List ℕ)) (r : Refusal) → IsOfFiles r
      → IsCause r (PartOf files job vex epoch to) → Does (Ok (Shard job vex epoch workers piece from to)) files seen moment may_leave d d old old (Err r)
  shard-files files job vex epoch workers piece from to =
      does-files files (Shard job vex epoch workers piece from to) (PartOf files job vex epoch to) (λ answer p. p)

  -- ---- commands that leave the journal alone

  module _ {A : Type 0} (files : Files) (order : Order) (outcomes : Outcomes A) (text : A → List ℕ) (d : D)
      (is_for : (o : Result Task Answer) → TextFor outcomes text o → TaskFor files order o) where
    there : (x : A) → outcomes (Ok x) → OutcomeFrom (Ok order) files (Ok (OfText (text x)))
    there x of = (order, refl, is_for (Ok (OfText (text x))) (x, of, refl))

    refuses : (a : Answer) → outcomes (Err a) → OutcomeFrom (Ok order) files (Err a)
    refuses a of = inr (order, refl, is_for (Err a) of)

    part-tells : (old new : Option (List ℕ)) → IsPartOf outcomes text old new → IsPart (OutcomeFrom (Ok order) files) files (seen d) (seen d) old new
    part-tells old new p = record { task = OfText (text p.0); outcome = there p.0 p.1; text = text p.0; is = refl; part = p.2 }

    tells-cause : (old new : Option (List ℕ)) (r : Refusal) → IsOfFilesOrOutput r → IsCause r outcomes
        → IsCauseOf r (OutcomeFrom (Ok order) files) files (may_leave d (moment d)) (seen d) (seen d) old new
    tells-cause old new Memory stage cause = tt
    tells-cause old new (Words fault) stage cause = absurd stage
    tells-cause old new (DueRefusal due) stage cause = refuses _ cause
    tells-cause old new (Other x) stage cause = absurd stage
    tells-cause old new Read stage cause = tt
    tells-cause old new (Journal kept) stage cause = absurd stage
    tells-cause old new Write stage cause = record {
      task = OfText (text cause.0);
      outcome = there cause.0 cause.1;
      opened = tt;
    }

    tells-part : (old new : Option (List ℕ)) (r : Refusal) → IsPartlyOf r outcomes text old new
        → IsPartly r (OutcomeFrom (Ok order) files) files (seen d) (seen d) old new
    tells-part old new Memory (inl same) = inl same
    tells-part old new Memory (inr p) = inr (part-tells old new p)
    tells-part old new (Words fault) same = same
    tells-part old new (DueRefusal due) same = same
    tells-part old new (Other d) same = same
    tells-part old new Read (inl same) = inl same
    tells-part old new Read (inr p) = inr (part-tells old new p)
    tells-part old new (Journal kept) part = absurd part
    tells-part old new Write p = part-tells old new p

    does-tells : (old new : Option (List ℕ)) (result : Result (Unit {0}) Refusal) → IfErr result IsOfFilesOrOutput → Tells outcomes text old new result
        → Does (Ok order) files seen moment may_leave d d old new result
    does-tells old new (Ok x) stage tells = record {
      goes = inl (looks_none seen moment may_leave d);
      done = record {
        task = OfText (text tells.done.0);
        outcome = there tells.done.0 tells.done.1;
        opened = tt;
        text = text tells.done.0;
        is = refl;
        told = tells.done.2;
        all = λ call same. absurd (no-job (text tells.done.0) call same);
        sums = λ call same. absurd (no-job (text tells.done.0) call same);
      };
      cause = tt;
      part = tt;
    }
    does-tells old new (Err r) stage tells = record {
      goes = inl (looks_none seen moment may_leave d);
      done = tt;
      cause = tells-cause old new r stage tells.cause;
      part = tells-part old new r tells.part;
    }

  -- a command that appends a text, by what its files come to
  pub does-text : {A : Type 0} (told : Option Files) (order given : Order) (outcomes : Files → Outcomes A) (text : Files → A → List ℕ) → order ≡ given
      → ((files : Files) (o : Result Task Answer) → TextFor (outcomes files) (text files) o → TaskFor files given o) → (d : D) (old new : Option (List ℕ)) (result : Result (Unit {0}) Refusal)
      → IfErr result IsOfFilesOrOutput → WhereTold told (λ files. Tells (outcomes files) (text files) old new result)
      → WhereTold told (λ files. Does (Ok order) files seen moment may_leave d d old new result)
  does-text None order given outcomes text same is_for d old new result stage tells = tt
  does-text (Some files) order given outcomes text same is_for d old new result stage tells =
      subst (λ (o : Order). Does (Ok o) files seen moment may_leave d d old new result) (sym same)
      (does-tells files given (outcomes files) (text files) d (is_for files) old new result stage tells)

  -- a command that appends nothing before all is read and taken
  pub does-shown : {A : Type 0} (told : Option Files) (order given : Order) (outcomes : Files → Outcomes A) (text : A → List ℕ) → order ≡ given
      → ((files : Files) (o : Result Task Answer) → TextFor (outcomes files) text o → TaskFor files given o) → (d : D) (old new : Option (List ℕ)) (result : Result (Unit {0}) Refusal)
      → IfErr result IsOfFilesOrOutput → WhereTold told (λ files. Shows (outcomes files) text old new result)
      → WhereTold told (λ files. Does (Ok order) files seen moment may_leave d d old new result)
  does-shown told order given outcomes text same is_for d old new result stage shows =
      does-text told order given outcomes (λ (files : Files). text) same is_for d old new result stage
      (where_then told _ _ (λ files shown. shows-tells (outcomes files) text old new result stage shown) shows)

  pub leaves-tells : (order : Order) (d : D) (old new : Option (List ℕ)) (result : Result (Unit {0}) Refusal) → is_writer order ≡ false
      → IfErr result (λ r. MatchDue r (new ≡ old)) → Leaves (Ok order) seen moment may_leave d d old new result
  leaves-tells order d old new result no_run nothing = record {
    nothing = nothing;
    whole = λ run. absurd (not_both (is_writer order) run no_run);
    untouched = λ _. looks_none seen moment may_leave d;
    verdict = by result;
  }
    where
      by : (q : Result (Unit {0}) Refusal) → IfErr q (λ r. MatchVerdict r (seen d ≡ seen d) (Looks seen moment may_leave d d))
      by (Ok x) = tt
      by (Err r) = verdict-none d r

-- ---- summaries

pub check-tells : {E : Type 0} (told : Option Files) (job : List ℕ) (vex : Option (List ℕ)) (epoch : Option ℕ) (plan : Plan) (samples : ℕ) (recordings : List StationRecording)
    (old new : Option (List ℕ)) (before now : ℕ) (text : List ℕ) (r : Result (Unit {0}) E)
    → samples ≡ unwrap_or epoch plan.epoch → WhereTold told (λ files. PlanOf files job vex epoch (Ok plan)) → WhereTold told (λ files. AreRecorded files plan.stations recordings)
    → Appends old new text before now r → ((files : Files) → AreRecorded files plan.stations recordings → text ≡ check_text plan samples files)
    → WhereTold told (λ files. Tells (PlanOf files job vex epoch) (λ plan. check_text plan (unwrap_or epoch plan.epoch) files) old new (written_with r))
check-tells None job vex epoch plan samples recordings old new before now text r in_force there recorded appends is = tt
check-tells {E} (Some files) job vex epoch plan samples recordings old new before now text r in_force there recorded appends is = by r appends
  where
    same : text ≡ check_text plan (unwrap_or epoch plan.epoch) files
    same = is files recorded ∙ ap (λ (n : ℕ). check_text plan n files) in_force

    by : (q : Result (Unit {0}) E) → Appends old new text before now q
        → Tells (PlanOf files job vex epoch) (λ plan. check_text plan (unwrap_or epoch plan.epoch) files) old new (written_with q)
    by (Ok x) appends = record { done = (plan, there, appends.ok ∙ ap (more old) same); cause = tt; part = tt }
    by (Err e) appends = record {
      done = tt;
      cause = (plan, there);
      part = (plan, there, subst (λ (t : List ℕ). PrefixMore old t new) same appends.prefix);
    }
