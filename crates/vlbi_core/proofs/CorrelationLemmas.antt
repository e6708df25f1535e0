-- What a call did that sums into its journal, and the records of `run`.
use Rattle.std.specs.Prelude.{OnOk, IfErr, unwrap_or, option_map}
use Rattle.std.specs.List.{All}
use Rattle.std.proofs.Common.{◌≡◌, ◌⊎◌, ◌∙◌, ⊎_elim, inl, inr, ℕ, ◌≤◌, ◌^◌, true, List, ◌++◌, length, map, Option, Some, None, Result, Ok, Err, refl, sym, ap, subst}
use Rattle.std.proofs.lemmas.List.Elements.{All-append, All-weaker}
use Rattle.dev_traits.specs.Fault.{HasRisen}
use Rattle.dev_traits.specs.Told.{more, WhereTold}
use Rattle.corr_model.specs.Files.{Files}
use Rattle.piece_plan.specs.Epochs.{JobSizes, IsJob}
use Rattle.piece_plan.specs.Order.{Place, CoverJob, AreInOrder, job_start}
use Rattle.plan_places.specs.declared.place.Place.{Place as Spot}
use Rattle.plan_places.specs.Places.{place_at}
use Rattle.plan_places.specs.Walk.{epochs_by}
use Rattle.job_plan.specs.declared.plan.Plan.{Plan}
use Rattle.job_plan.specs.Ranges.{IsPlan}
use Rattle.job_plan.specs.Output.{output}
use Rattle.job_epochs.specs.Sizes.{sizes_of}
use Rattle.job_epochs.specs.Sums.{epoch_sums}
use Rattle.journal_image.specs.Image.{Due, KeptEpoch, IsIdentity, records, Keeps}
use Rattle.journal_image.proofs.KeptLemmas.{reads_in_order}
use Rattle.journal_image.proofs.ReadingLemmas.{keeps_one}
use Rattle.checkpoint_journal.specs.Cells.{body_text}
use Rattle.checkpoint_journal.specs.Kept.{KeepsMany}
use Rattle.checkpoint_journal.specs.Standing.{JournalState, Knows, Stands}
use Rattle.checkpoint_journal.specs.Runs.{Looks, Changes, Spares, StepTold, KeepsEpochs, IsOurs}
use Rattle.checkpoint_journal.proofs.RunLemmas.{changes_looks, changes_both, durable_looks, told_value}
use Rattle.run_words.specs.declared.order.Order.{Order}
use Rattle.run_words.specs.declared.order.Order.TheVariants.{Run}
use Rattle.run_notes.specs.declared.refusal.Refusal.{Refusal}
use Rattle.run_notes.specs.declared.refusal.Refusal.TheVariants.{Memory, Words, Due as DueRefusal, Other, Read, Journal, Write}
use Rattle.run_notes.specs.Refusals.{Outcomes, MatchJournal}
use Rattle.run_notes.specs.Counted.{CountsJournal}
use Rattle.run_ready.specs.Outcome.{PlanOf}
use Rattle.run_ready.specs.Identities.{identity_under}
use Rattle.run_ready.specs.Stage.{IsOfFiles}
use Rattle.journal_rounds.specs.Counted.{IsFull}
use Rattle.journal_rounds.specs.Extended.{IsSummed, Extends}
use Rattle.journal_rounds.specs.Refused.{IsJournalFault}
use Rattle.journal_rounds.specs.Room.{HasNoPlace, IsLong}
use Rattle.journal_rounds.proofs.ExtendLemmas.{extends_same, extends_joined, knows_keeps}
use Rattle.journal_records.specs.Kept.{WritesKept, kept_text}
use Rattle.vis_writer.specs.Writes.{Appended}
use Rattle.vlbi_core.specs.Engine.{IsRefusedFor, KeepsNamed, IsOfRecords}
use Rattle.vlbi_core.specs.Calls.{Call, call_of, is_writer, Task, OfJob, TaskFor, end_text, identity_for, sizes_for, epoch_for, IsOursFor, KeepsAll}
use Rattle.vlbi_core.specs.Texts.{IsSums, IsSummedFor, IsCovered, IsText, IsPart}
use Rattle.vlbi_core.specs.Restart.{IsHonest}
use Rattle.vlbi_core.specs.Steps.{OutcomeFrom, IsCauseOf, IsPartly, IsFullFor, CountsJournalOr, Goes, Does, MatchVerdict, Leaves, SaysFor}
use Rattle.vlbi_core.proofs.ExtendLemmas.{Extends-split, WalksEnd, NoMoreLeft, long-kept}
use Rattle.vlbi_core.proofs.CommandLemmas.{run-planned, one-job, not_both, due-same, early-same}

-- the law of record files from sums
abbrev pub SumsMakeOutput : Type 0
SumsMakeOutput =
    (plan : Plan) (files : Files) (kept : List KeptEpoch) → IsPlan plan
    → CoverJob (sizes_of plan) (map (λ (k : KeptEpoch). k.epoch) kept)
    → All (λ (k : KeptEpoch). k.body ≡ body_text (epoch_sums plan files k.epoch)) kept
    → kept_text plan kept ≡ output plan files

-- some text was appended, or with a fault a first part of it
abbrev pub Grows : Option (List ℕ) → Option (List ℕ) → Result (Unit {0}) Refusal → Type 0
Grows old new result = (text : List ℕ) × Appended old text new result

-- ---- when a journal is full

-- The image before and the one after a call that found a journal full. The one before is of the job, and so tells what is due.
full-at : WalksEnd → NoMoreLeft → (id : List ℕ) (job : JobSizes) (epoch : ℕ) (before : Option (List ℕ)) → IsIdentity id → IsJob job → 1 ≤ epoch → epoch ≤ 4194304
    → length (epochs_by job epoch) ≤ 4294967296 → WhereTold before (IsOurs id job) → WhereTold before (IsLong id job epoch) → WhereTold before (λ image. 2 ^ 62 ≤ length image)
full-at ends no_more id job epoch None named is some short few ours long = tt
full-at ends no_more id job epoch (Some v) named is some short few ours long = long-kept ends no_more id job epoch v ours.0 named is some short few ours.1 long

-- what is kept as it was, where the image behind it is full
ours-full : (id : List ℕ) (job : JobSizes) (before after : Option (List ℕ)) → StepTold (KeepsEpochs id job) before after → WhereTold after (IsFull id job) → WhereTold before (IsOurs id job)
ours-full id job None after step full = tt
ours-full id job (Some v) None step full = absurd step
ours-full id job (Some v) (Some image) step full =
    let kept = records full.reading.things in
    (kept, (step kept).1 (inr (full.reading, full.reads, refl)))

fault-ours : (id : List ℕ) (job : JobSizes) (before after : Option (List ℕ)) (kept : Option ℕ) → IsJournalFault id job before after kept → WhereTold after (IsFull id job)
    → WhereTold before (IsOurs id job)
fault-ours id job before after None fault full = ours-full id job before after fault full
fault-ours id job before after (Some k) fault full = fault

full-long : WalksEnd → NoMoreLeft → (id : List ℕ) (job : JobSizes) (epoch : ℕ) (before after : Option (List ℕ)) (kept : Option ℕ) → IsIdentity id → IsJob job → 1 ≤ epoch → epoch ≤ 4194304
    → length (epochs_by job epoch) ≤ 4294967296 → IsJournalFault id job before after kept → HasNoPlace id job epoch before after → WhereTold before (λ image. 2 ^ 62 ≤ length image)
full-long ends no_more id job epoch before after kept named is some short few fault none =
    full-at ends no_more id job epoch before named is some short few (fault-ours id job before after kept fault none.full) none.long

-- ---- a call that sums

-- What an order is for that sums into its journal, by what the shelf tells: the call, its identity, what its journal is cut by, and the samples
-- of an epoch in force.
pub record IsSummer (told : Option Files) (order : Order) (call : Call) (id : List ℕ) (sizes : JobSizes) (samples : ℕ) : Type 0 where
  pub sums : call.sums ≡ true
  pub task : WhereTold told (λ files. TaskFor files order (Ok (OfJob call)))
  pub same : WhereTold told (λ files. id ≡ identity_for files call)
  pub cut : sizes ≡ sizes_for call
  pub in_force : samples ≡ epoch_for call

-- where a journal is full, it is so for the call
full-for : WalksEnd → NoMoreLeft → (told : Option Files) (order : Order) (call : Call) (id : List ℕ) (sizes : JobSizes) (samples : ℕ)
    (before after : Option (List ℕ)) (kept : Option ℕ) → IsIdentity id → IsJob sizes → 1 ≤ samples → samples ≤ 4194304 → length (epochs_by sizes samples) ≤ 4294967296
    → IsSummer told order call id sizes samples → IsJournalFault id sizes before after kept → HasNoPlace id sizes samples before after
    → WhereTold told (λ files. IsFullFor (OutcomeFrom (Ok order) files) files before after)
full-for ends no_more None order call id sizes samples before after kept named is some short few summer fault none = tt
full-for ends no_more (Some files) order call id sizes samples before after kept named is some short few summer fault none = record {
  call = call;
  outcome = run-planned files order call summer.task;
  run = summer.sums;
  full = subst (λ (i : List ℕ). WhereTold after (IsFull i (sizes_for call))) summer.same (subst (λ (z : JobSizes). WhereTold after (IsFull id z)) summer.cut none.full);
  long = full-long ends no_more id sizes samples before after kept named is some short few fault none;
}

-- the journal's count over a call that did not bring it to its end
pub resumed-counts : WalksEnd → NoMoreLeft → (told : Option Files) (order : Order) (call : Call) (id : List ℕ) (sizes : JobSizes) (samples : ℕ)
    (before after : Option (List ℕ)) (faults now : ℕ) (r : Refusal) → IsIdentity id → IsJob sizes → 1 ≤ samples → samples ≤ 4194304 → length (epochs_by sizes samples) ≤ 4294967296
    → IsSummer told order call id sizes samples → IsRefusedFor id sizes before after r
    → MatchJournal r (HasRisen faults now ⊎ ((now ≡ faults) × HasNoPlace id sizes samples before after)) (now ≡ faults)
    → MatchJournal r (HasRisen faults now ⊎ ((now ≡ faults) × WhereTold told (λ files. IsFullFor (OutcomeFrom (Ok order) files) files before after))) (now ≡ faults)
resumed-counts ends no_more told order call id sizes samples before after faults now Memory named is some short few summer of counts = counts
resumed-counts ends no_more told order call id sizes samples before after faults now (Words fault) named is some short few summer of counts = counts
resumed-counts ends no_more told order call id sizes samples before after faults now (DueRefusal due) named is some short few summer of counts = counts
resumed-counts ends no_more told order call id sizes samples before after faults now (Other d) named is some short few summer of counts = counts
resumed-counts ends no_more told order call id sizes samples before after faults now Read named is some short few summer of counts = counts
resumed-counts ends no_more told order call id sizes samples before after faults now (Journal kept) named is some short few summer of (inl risen) = inl risen
resumed-counts ends no_more told order call id sizes samples before after faults now (Journal kept) named is some short few summer of (inr full) =
    inr (full.0, full-for ends no_more told order call id sizes samples before after kept named is some short few summer of full.1)
resumed-counts ends no_more told order call id sizes samples before after faults now Write named is some short few summer of counts = counts

-- over one that brought it there, and then wrote its records
pub emitted-counts : (full : Type 0) (before mid after : ℕ) (result : Result (Unit {0}) Refusal) → mid ≡ before → CountsJournal mid after result → CountsJournalOr full before after result
emitted-counts full before mid after (Ok x) same counts = counts ∙ same
emitted-counts full before mid after (Err Memory) same counts = counts ∙ same
emitted-counts full before mid after (Err (Words fault)) same counts = counts ∙ same
emitted-counts full before mid after (Err (DueRefusal due)) same counts = counts ∙ same
emitted-counts full before mid after (Err (Other d)) same counts = counts ∙ same
emitted-counts full before mid after (Err Read) same counts = counts ∙ same
emitted-counts full before mid after (Err (Journal kept)) same counts = inl (subst (λ (n : ℕ). HasRisen n after) same counts)
emitted-counts full before mid after (Err Write) same counts = counts ∙ same

-- and over one that did not come so far
pub files-counts : (full : Type 0) (faults : ℕ) (r : Refusal) → IsOfFiles r → MatchJournal r (HasRisen faults faults ⊎ ((faults ≡ faults) × full)) (faults ≡ faults)
files-counts full faults Memory stage = refl
files-counts full faults (Words fault) stage = refl
files-counts full faults (DueRefusal due) stage = refl
files-counts full faults (Other d) stage = refl
files-counts full faults Read stage = refl
files-counts full faults (Journal kept) stage = absurd stage
files-counts full faults Write stage = refl

-- ---- what a journal keeps that covers its job

no-place : (at : Option Spot) → at ≡ None → option_map place_at at ≡ None
no-place at none = ap (option_map place_at) none

knows-covers : (id : List ℕ) (job : JobSizes) (j : JournalState) (image : List ℕ) (knows : Knows id job j image) → j.end.next ≡ None
    → CoverJob job (map (λ (k : KeptEpoch). k.epoch) (records knows.reading.things))
knows-covers id job j image knows covers =
    let end : knows.reading.due.place ≡ None = ap (λ (d : Due). d.place) (sym knows.end.due) ∙ no-place j.end.next covers in
    subst (λ (p : Option Place). AreInOrder job (job_start job) (map (λ (k : KeptEpoch). k.epoch) (records knows.reading.things)) p) end
    (reads_in_order id job image knows.reading knows.reads)

knows-many : (id : List ℕ) (job : JobSizes) (j : JournalState) (image : List ℕ) → Knows id job j image → KeepsMany id job image j.end.kept
knows-many id job j image knows = record { kept = records knows.reading.things; keeps = knows_keeps id job j image knows; many = sym knows.end.kept }

-- ---- the text that was appended

-- what it is, by what the disk read on entry and reads now
pub record EndText (files : Files) (call : Call) (before after old new : Option (List ℕ)) (result : Result (Unit {0}) Refusal) : Type 0 where
  pub text : List ℕ
  pub is : IsText files (OfJob call) before after text
  pub appended : Appended old text new result
  pub opened : WhereTold before (IsOursFor files call)
  pub sums : OnOk result (WhereTold before (λ image. IsHonest files call image → new ≡ more old (end_text files call)))

-- the journal of a call at its end
module _ (files : Files) (call : Call) (named : IsIdentity (identity_for files call)) (is : IsJob (sizes_for call)) (journal : JournalState) (covers : journal.end.next ≡ None) where
  covered : (before after : List ℕ) → Extends (IsSummedFor files call) (identity_for files call) (sizes_for call) before after
      → Knows (identity_for files call) (sizes_for call) journal after → IsCovered files call before after
  covered before after step knows =
      let id = identity_for files call in
      let job = sizes_for call in
      let split = Extends-split (IsSummedFor files call) id job named is before after (records knows.reading.things) step (knows_keeps id job journal after knows) in
      record {
        old = split.old;
        more = split.more;
        entry = split.before;
        end = subst (Keeps id job after) split.is (knows_keeps id job journal after knows);
        sums = split.each;
        all = subst (λ (l : List KeptEpoch). CoverJob job (map (λ (k : KeptEpoch). k.epoch) l)) split.is (knows-covers id job journal after knows covers);
      }

  pub covered-told : (before after : Option (List ℕ)) → StepTold (Extends (IsSummedFor files call) (identity_for files call) (sizes_for call)) before after
      → WhereTold after (Knows (identity_for files call) (sizes_for call) journal) → WhereTold before (λ b. WhereTold after (λ a. IsCovered files call b a))
  covered-told None after step knows = tt
  covered-told (Some b) None step knows = tt
  covered-told (Some b) (Some a) step knows = covered b a step knows

  pub opened-told : (before after : Option (List ℕ)) → StepTold (Extends (IsSummedFor files call) (identity_for files call) (sizes_for call)) before after
      → WhereTold after (Knows (identity_for files call) (sizes_for call) journal) → WhereTold before (IsOursFor files call)
  opened-told None after step knows = tt
  opened-told (Some b) None step knows = absurd step
  opened-told (Some b) (Some a) step knows = ((covered b a step knows).old, (covered b a step knows).entry)

-- what makes the text of a call, where the files are told
abbrev pub MakesText : Call → JournalState → Option (List ℕ) → Option (List ℕ) → Option (List ℕ) → Option (List ℕ) → Result (Unit {0}) Refusal → Files → Type 0
MakesText call journal sb sm old new result files =
    IsIdentity (identity_for files call) → IsJob (sizes_for call) → journal.end.next ≡ None
    → StepTold (Extends (IsSummedFor files call) (identity_for files call) (sizes_for call)) sb sm
    → WhereTold sm (Knows (identity_for files call) (sizes_for call) journal)
    → EndText files call sb sm old new result

-- ---- the records of `run`

module _ (job : List ℕ) (vex : Option (List ℕ)) (epoch : Option ℕ) (plan : Plan) where
  -- the call on the whole job
  abbrev pub run_call : Call
  run_call = call_of true job vex epoch None plan

  pub run-summer : (told : Option Files) (workers piece : ℕ) (id : List ℕ) (sizes : JobSizes) (samples : ℕ)
      → WhereTold told (λ files. PlanOf files job vex epoch (Ok plan)) → WhereTold told (λ files. id ≡ identity_under files job vex plan)
      → sizes ≡ sizes_of plan → samples ≡ unwrap_or epoch plan.epoch → IsSummer told (Run job vex epoch workers piece) run_call id sizes samples
  run-summer None workers piece id sizes samples there same cut in_force = record { sums = refl; task = tt; same = tt; cut = cut; in_force = in_force }
  run-summer (Some files) workers piece id sizes samples there same cut in_force = record { sums = refl; task = (refl, there); same = same; cut = cut; in_force = in_force }

  honest-text : SumsMakeOutput → (files : Files) → IsPlan plan → IsIdentity (identity_for files run_call) → IsJob (sizes_for run_call) → (v image : List ℕ) (c : IsCovered files run_call v image)
      → IsHonest files run_call v → kept_text plan (c.old ++ c.more) ≡ output plan files
  honest-text law files ranges named is v image c honest =
      let same : honest.kept ≡ c.old = keeps_one (identity_for files run_call) (sizes_for run_call) v named is honest.kept c.old honest.keeps c.entry in
      let begun = subst (λ (l : List KeptEpoch). All (λ (k : KeptEpoch). IsSums files plan k.epoch k.body) l) same honest.sums in
      let then = All-weaker (λ (k : KeptEpoch). IsSummedFor files run_call k.epoch k.body) (λ (k : KeptEpoch). IsSums files plan k.epoch k.body) (λ k both. both.1) c.more c.sums in
      law plan files (c.old ++ c.more) ranges c.all (All-append (λ (k : KeptEpoch). IsSums files plan k.epoch k.body) c.old c.more begun then)

  run-text : SumsMakeOutput → (files : Files) → IsPlan plan → (journal : JournalState) (sb sm old new : Option (List ℕ)) (result : Result (Unit {0}) Refusal)
      → WhereTold sm (λ image. WritesKept (identity_for files run_call) plan image old new result) → Grows old new result → MakesText run_call journal sb sm old new result files
  run-text law files ranges journal None sm old new result written grows named is covers step knows = record {
    text = grows.0;
    is = tt;
    appended = grows.1;
    opened = tt;
    sums = by result;
  }
    where
      by : (q : Result (Unit {0}) Refusal) → OnOk q (Unit {0})
      by (Ok x) = tt
      by (Err r) = tt
  run-text law files ranges journal (Some v) None old new result written grows named is covers step knows = absurd step
  run-text law files ranges journal (Some v) (Some m) old new result written grows named is covers step knows =
      let c = covered files run_call named is journal covers v m step knows in
      let said : written.kept ≡ c.old ++ c.more =
      keeps_one (identity_for files run_call) (sizes_for run_call) m named is written.kept (c.old ++ c.more) written.keeps c.end in
      record {
        text = kept_text plan written.kept;
        is = record { covered = c; records = ap (kept_text plan) said };
        appended = written.appended;
        opened = (c.old, c.entry);
        sums = by result (kept_text plan written.kept) written.appended
            (λ honest. ap (kept_text plan) said ∙ honest-text law files ranges named is v m c honest);
      }
    where
      by : (q : Result (Unit {0}) Refusal) (text : List ℕ) → Appended old text new q → (IsHonest files run_call v → text ≡ output plan files)
          → OnOk q (IsHonest files run_call v → new ≡ more old (output plan files))
      by (Ok x) text appended same = λ honest. appended.all ∙ ap (more old) (same honest)
      by (Err r) text appended same = tt

  pub run-makes : SumsMakeOutput → (told : Option Files) → IsPlan plan → (id : List ℕ) → WhereTold told (λ files. id ≡ identity_under files job vex plan)
      → (journal : JournalState) (sb sm old new : Option (List ℕ)) (result : Result (Unit {0}) Refusal)
      → WhereTold sm (λ image. WritesKept id plan image old new result) → Grows old new result → WhereTold told (MakesText run_call journal sb sm old new result)
  run-makes law None ranges id same journal sb sm old new result written grows = tt
  run-makes law (Some files) ranges id same journal sb sm old new result written grows =
      run-text law files ranges journal sb sm old new result
      (subst (λ (i : List ℕ). WhereTold sm (λ image. WritesKept i plan image old new result)) same written) grows

module _ {D : Type 0} (seen : D → Option (List ℕ)) (moment : D → ℕ) (may_leave : D → ℕ → List ℕ → Type 0) where
  -- ---- a journal that could not be brought to the end

  pub record Resumed (told : Option Files) (plan : Plan) (id : List ℕ) (sizes : JobSizes) (samples : ℕ) (before after : D) (r : Refusal) : Type 0 where
    pub changes : Changes seen moment may_leave (Extends (IsSummed told plan sizes samples) id sizes) before after
    pub spares : Spares seen moment may_leave id sizes before after
    pub refused : IsRefusedFor id sizes (seen before) (seen after) r
    pub named : KeepsNamed id sizes (may_leave after (moment after)) r

  module _ (files : Files) (order : Order) (call : Call) (sums : call.sums ≡ true) (there : TaskFor files order (Ok (OfJob call))) where
    resumed-cause : (before after : D) (old : Option (List ℕ)) (r : Refusal)
        → IsRefusedFor (identity_for files call) (sizes_for call) (seen before) (seen after) r
        → KeepsNamed (identity_for files call) (sizes_for call) (may_leave after (moment after)) r
        → IsCauseOf r (OutcomeFrom (Ok order) files) files (may_leave after (moment after)) (seen before) (seen after) old old
    resumed-cause before after old Memory of named = tt
    resumed-cause before after old (Words fault) of named = absurd of
    resumed-cause before after old (DueRefusal due) of named = absurd of
    resumed-cause before after old (Other d) of named = record {
      call = call;
      outcome = run-planned files order call there;
      other = of.0;
    }
    resumed-cause before after old Read of named = tt
    resumed-cause before after old (Journal None) of named = record {
      call = call;
      outcome = run-planned files order call there;
      says = λ _. (refl, of);
      unnamed = λ other. absurd (not_both call.sums sums other);
    }
    resumed-cause before after old (Journal (Some k)) of named = record {
      call = call;
      outcome = run-planned files order call there;
      says = λ _. named;
      unnamed = λ other. absurd (not_both call.sums sums other);
    }
    resumed-cause before after old Write of named = absurd of

    resumed-part : (outcomes : Outcomes Task) (before before' after after' old : Option (List ℕ)) (id : List ℕ) (sizes : JobSizes) (r : Refusal)
        → IsRefusedFor id sizes before after r → IsPartly r outcomes files before' after' old old
    resumed-part outcomes before before' after after' old id sizes Memory of = inl refl
    resumed-part outcomes before before' after after' old id sizes (Words fault) of = refl
    resumed-part outcomes before before' after after' old id sizes (DueRefusal due) of = refl
    resumed-part outcomes before before' after after' old id sizes (Other d) of = refl
    resumed-part outcomes before before' after after' old id sizes Read of = inl refl
    resumed-part outcomes before before' after after' old id sizes (Journal kept) of = inl refl
    resumed-part outcomes before before' after after' old id sizes Write of = absurd of

    does-resumed-at : (before after : D) (old : Option (List ℕ)) (r : Refusal)
        → Resumed (Some files) call.plan (identity_for files call) (sizes_for call) (epoch_for call) before after r
        → Does (Ok order) files seen moment may_leave before after old old (Err r)
    does-resumed-at before after old r h = record {
      goes = ⊎_elim inl (λ (ours : WhereTold (seen before) (IsOursFor files call)). inr (record {
        call = call;
        outcome = run-planned files order call there;
        run = sums;
        opened = ours;
        changes = h.changes;
      })) h.spares;
      done = tt;
      cause = resumed-cause before after old r h.refused h.named;
      part = resumed-part (OutcomeFrom (Ok order) files) (seen before) (seen before) (seen after) (seen after) old _ _ r h.refused;
    }

  pub does-resumed : (told : Option Files) (order : Order) (call : Call) (id : List ℕ) (sizes : JobSizes) (samples : ℕ) (before after : D) (old : Option (List ℕ)) (r : Refusal)
      → IsSummer told order call id sizes samples → Resumed told call.plan id sizes samples before after r
      → WhereTold told (λ files. Does (Ok order) files seen moment may_leave before after old old (Err r))
  does-resumed None order call id sizes samples before after old r summer h = tt
  does-resumed (Some files) order call id sizes samples before after old r summer h =
      does-resumed-at files order call summer.sums summer.task before after old r
      (subst (λ (n : ℕ). Resumed (Some files) call.plan (identity_for files call) (sizes_for call) n before after r) summer.in_force
      (subst (λ (i : List ℕ). Resumed (Some files) call.plan i (sizes_for call) samples before after r) summer.same
      (subst (λ (z : JobSizes). Resumed (Some files) call.plan id z samples before after r) summer.cut h)))

  resumed-verdict : (id : List ℕ) (sizes : JobSizes) (before after : D) (r : Refusal) → IsRefusedFor id sizes (seen before) (seen after) r
      → MatchVerdict r (seen after ≡ seen before) (Looks seen moment may_leave before after)
  resumed-verdict id sizes before after Memory of = tt
  resumed-verdict id sizes before after (Words fault) of = absurd of
  resumed-verdict id sizes before after (DueRefusal due) of = absurd of
  resumed-verdict id sizes before after (Other d) of = of.1
  resumed-verdict id sizes before after Read of = tt
  resumed-verdict id sizes before after (Journal kept) of = tt
  resumed-verdict id sizes before after Write of = absurd of

  pub resumed-leaves : (order : Order) (id : List ℕ) (sizes : JobSizes) (before after : D) (old : Option (List ℕ)) (r : Refusal) → is_writer order ≡ true
      → IsRefusedFor id sizes (seen before) (seen after) r → Leaves (Ok order) seen moment may_leave before after old old (Err r)
  resumed-leaves order id sizes before after old r writer of = record {
    nothing = due-same old r;
    whole = λ _. early-same old r;
    untouched = λ other. absurd (not_both (is_writer order) writer other);
    verdict = resumed-verdict id sizes before after r of;
  }

  -- ---- a journal that was brought to the end, and what was appended then

  pub record Brought (told : Option Files) (plan : Plan) (id : List ℕ) (sizes : JobSizes) (samples : ℕ) (journal : JournalState) (before mid after : D) (old new : Option (List ℕ))
      (result : Result (Unit {0}) Refusal) : Type 0 where
    pub changes : Changes seen moment may_leave (Extends (IsSummed told plan sizes samples) id sizes) before mid
    pub stands : Stands id sizes journal (seen mid) (may_leave mid (moment mid))
    pub covers : journal.end.next ≡ None
    pub looks : Looks seen moment may_leave mid after
    pub refused : IfErr result (IsOfRecords journal.end.kept old new)

  -- what each image then says
  image-knows : (id : List ℕ) (sizes : JobSizes) (journal : JournalState) (mid after : D) → Stands id sizes journal (seen mid) (may_leave mid (moment mid)) → Looks seen moment may_leave mid after
      → (image : List ℕ) → may_leave after (moment after) image → Knows id sizes journal image
  image-knows id sizes journal mid after stands looks image now =
      let read = durable_looks seen moment may_leave mid after looks stands.durable image now in
      told_value (seen mid) (Knows id sizes journal) image (sym looks.same ∙ read) stands.image

  module _ (files : Files) (order : Order) (call : Call) (sums : call.sums ≡ true) (there : TaskFor files order (Ok (OfJob call)))
      (journal : JournalState) (before mid after : D) (old new : Option (List ℕ)) where
    abbrev Is : Result (Unit {0}) Refusal → Type 0
    Is result = Brought (Some files) call.plan (identity_for files call) (sizes_for call) (epoch_for call) journal before mid after old new result

    abbrev Said : Result (Unit {0}) Refusal → Type 0
    Said result = EndText files call (seen before) (seen after) old new result

    brought-goes : (result : Result (Unit {0}) Refusal) → Is result
        → Changes seen moment may_leave (Extends (IsSummedFor files call) (identity_for files call) (sizes_for call)) before after
    brought-goes result h =
        let Step : List ℕ → List ℕ → Type 0 = Extends (IsSummedFor files call) (identity_for files call) (sizes_for call) in
        let stays = extends_same (IsSummedFor files call) (identity_for files call) (sizes_for call) in
        changes_both seen moment may_leave Step stays
        (extends_joined (IsSummedFor files call) (identity_for files call) (sizes_for call) h.stands.named h.stands.plan) before mid after h.changes
        (changes_looks seen moment may_leave Step stays mid after h.looks)

    brought-running : (result : Result (Unit {0}) Refusal) → Is result → Said result → Goes (OutcomeFrom (Ok order) files) files seen moment may_leave before after
    brought-running result h t = inr (record {
      call = call;
      outcome = run-planned files order call there;
      run = sums;
      opened = t.opened;
      changes = brought-goes result h;
    })

    brought-knows : (result : Result (Unit {0}) Refusal) → Is result → (image : List ℕ) → may_leave after (moment after) image → Knows (identity_for files call) (sizes_for call) journal image
    brought-knows result h image now = image-knows _ _ journal mid after h.stands h.looks image now

    brought-all : (result : Result (Unit {0}) Refusal) → Is result → (image : List ℕ) → may_leave after (moment after) image → KeepsAll files call image
    brought-all result h image now =
        let knows = brought-knows result h image now in
        record {
          kept = records knows.reading.things;
          keeps = knows_keeps _ _ journal image knows;
          all = knows-covers _ _ journal image knows h.covers;
        }

    brought-cause : (r : Refusal) → Is (Err r) → Said (Err r)
        → IsCauseOf r (OutcomeFrom (Ok order) files) files (may_leave after (moment after)) (seen before) (seen after) old new
    brought-cause Memory h t = tt
    brought-cause (Words fault) h t = absurd h.refused
    brought-cause (DueRefusal due) h t = absurd h.refused
    brought-cause (Other d) h t = absurd h.refused
    brought-cause Read h t = tt
    brought-cause (Journal kept) h t = record {
      call = call;
      outcome = run-planned files order call there;
      says = λ _. subst (λ (k : Option ℕ). SaysFor k files call (may_leave after (moment after)) (seen before) (seen after) old new) (sym h.refused)
          (λ image now. inl (knows-many _ _ journal image (brought-knows (Err (Journal kept)) h image now)));
      unnamed = λ other. absurd (not_both call.sums sums other);
    }
    brought-cause Write h t = record {
      task = OfJob call;
      outcome = run-planned files order call there;
      opened = t.opened;
    }

    text-part : (r : Refusal) → Said (Err r) → IsPart (OutcomeFrom (Ok order) files) files (seen before) (seen after) old new
    text-part r t = record {
      task = OfJob call;
      outcome = run-planned files order call there;
      text = t.text;
      is = t.is;
      part = t.appended.part;
    }

    brought-part : (r : Refusal) → Is (Err r) → Said (Err r) → IsPartly r (OutcomeFrom (Ok order) files) files (seen before) (seen after) old new
    brought-part Memory h t = inl h.refused
    brought-part (Words fault) h t = absurd h.refused
    brought-part (DueRefusal due) h t = absurd h.refused
    brought-part (Other d) h t = absurd h.refused
    brought-part Read h t = absurd h.refused
    brought-part (Journal kept) h t = inr (text-part (Journal kept) t)
    brought-part Write h t = text-part Write t

    does-brought-at : (result : Result (Unit {0}) Refusal) → Is result → Said result → Does (Ok order) files seen moment may_leave before after old new result
    does-brought-at (Ok x) h t = record {
      goes = brought-running (Ok x) h t;
      done = record {
        task = OfJob call;
        outcome = run-planned files order call there;
        opened = t.opened;
        text = t.text;
        is = t.is;
        told = t.appended.all;
        all = λ other same _ image now. subst (λ (c : Call). KeepsAll files c image) (one-job call other same) (brought-all (Ok x) h image now);
        sums = λ other same _. subst (λ (c : Call). WhereTold (seen before) (λ image. IsHonest files c image → new ≡ more old (end_text files c)))
            (one-job call other same) t.sums;
      };
      cause = tt;
      part = tt;
    }
    does-brought-at (Err r) h t = record {
      goes = brought-running (Err r) h t;
      done = tt;
      cause = brought-cause r h t;
      part = brought-part r h t;
    }

  pub does-brought : (told : Option Files) (order : Order) (call : Call) (id : List ℕ) (sizes : JobSizes) (samples : ℕ) (journal : JournalState) (before mid after : D)
      (old new : Option (List ℕ)) (result : Result (Unit {0}) Refusal)
      → IsSummer told order call id sizes samples → Brought told call.plan id sizes samples journal before mid after old new result
      → WhereTold told (MakesText call journal (seen before) (seen mid) old new result)
      → WhereTold told (λ files. Does (Ok order) files seen moment may_leave before after old new result)
  does-brought None order call id sizes samples journal before mid after old new result summer h makes = tt
  does-brought (Some files) order call id sizes samples journal before mid after old new result summer h makes =
      let b : Brought (Some files) call.plan (identity_for files call) (sizes_for call) (epoch_for call) journal before mid after old new result =
      subst (λ (n : ℕ). Brought (Some files) call.plan (identity_for files call) (sizes_for call) n journal before mid after old new result) summer.in_force
      (subst (λ (i : List ℕ). Brought (Some files) call.plan i (sizes_for call) samples journal before mid after old new result) summer.same
      (subst (λ (z : JobSizes). Brought (Some files) call.plan id z samples journal before mid after old new result) summer.cut h)) in
      let t = makes b.stands.named b.stands.plan b.covers b.changes.read b.stands.image in
      does-brought-at files order call summer.sums summer.task journal before mid after old new result b
      (subst (λ (s : Option (List ℕ)). EndText files call (seen before) s old new result) (sym b.looks.same) t)
