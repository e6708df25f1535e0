-- What the commands did that use the journal.
use Rattle.std.specs.Prelude.{IfErr, IfSome, unwrap_or, option_map}
use Rattle.std.proofs.Common.{◌≡◌, inl, ℕ, ◌+◌, ◌≤◌, true, false, List, length, Option, Some, None, Result, Ok, Err, refl, sym, subst, arith}
use Rattle.dev_traits.specs.Told.{WhereTold}
use Rattle.sink_text.specs.Appends.{Appends}
use Rattle.corr_model.specs.Files.{Files}
use Rattle.piece_plan.specs.Epochs.{JobSizes, IsJob}
use Rattle.plan_places.specs.declared.place.Place.{Place as Spot}
use Rattle.plan_places.specs.Places.{place_at, IsPlace}
use Rattle.plan_places.specs.Walk.{AreLeft, epochs_by}
use Rattle.job_plan.specs.declared.plan.Plan.{Plan}
use Rattle.job_epochs.specs.Sizes.{sizes_of}
use Rattle.checkpoint_journal.specs.declared.seen.Seen.{Seen}
use Rattle.checkpoint_journal.specs.Kept.{Sees}
use Rattle.checkpoint_journal.specs.Runs.{Looks}
use Rattle.run_words.specs.declared.order.Order.TheVariants.{Status}
use Rattle.run_notes.specs.declared.refusal.Refusal.{Refusal}
use Rattle.run_notes.specs.declared.refusal.Refusal.TheVariants.{Memory, Words, Due as DueRefusal, Other, Read, Journal, Write}
use Rattle.run_notes.specs.Refusals.{Outcomes}
use Rattle.run_ready.specs.Outcome.{SurveyOf}
use Rattle.run_ready.specs.Identities.{identity_under}
use Rattle.run_summary.specs.Summaries.{kept_line}
use Rattle.vlbi_core.specs.Calls.{Call, call_of, Task, OfJob, IsOursFor}
use Rattle.vlbi_core.specs.Texts.{IsKeptLine}
use Rattle.vlbi_core.specs.Faults.{written_with}
use Rattle.vlbi_core.specs.Steps.{OutcomeFrom, IsBehindWords, IsUnnumbered, IsLookedFor, IsCauseOf, IsPartly, Does, MatchDue, MatchVerdict, Leaves}
use Rattle.vlbi_core.proofs.ExtendLemmas.{NoMoreLeft}
use Rattle.vlbi_core.proofs.CommandLemmas.{status-planned, one-job, not_both}

-- ---- looks at the journal

pub looked-behind : (id : List ℕ) (sizes : JobSizes) (before : Option (List ℕ)) (r : Refusal) → IsLookedFor id sizes before r → IsBehindWords r
looked-behind id sizes before Memory of = tt
looked-behind id sizes before (Words fault) of = absurd of
looked-behind id sizes before (DueRefusal due) of = tt
looked-behind id sizes before (Other d) of = tt
looked-behind id sizes before Read of = tt
looked-behind id sizes before (Journal kept) of = tt
looked-behind id sizes before Write of = tt

pub looked-unnumbered : (id : List ℕ) (sizes : JobSizes) (before : Option (List ℕ)) (r : Refusal) → IsLookedFor id sizes before r → IsUnnumbered r
looked-unnumbered id sizes before Memory of = tt
looked-unnumbered id sizes before (Words fault) of = tt
looked-unnumbered id sizes before (DueRefusal due) of = tt
looked-unnumbered id sizes before (Other d) of = tt
looked-unnumbered id sizes before Read of = tt
looked-unnumbered id sizes before (Journal None) of = tt
looked-unnumbered id sizes before (Journal (Some k)) of = absurd of
looked-unnumbered id sizes before Write of = tt

-- ---- the epochs that are left

-- no more than 2^32 epochs are left
pub left-few : NoMoreLeft → (job : JobSizes) (samples : ℕ) (at : Option Spot) (left : ℕ) → IsJob job → 1 ≤ samples → samples ≤ 4194304 → length (epochs_by job samples) ≤ 4294967296
    → IfSome at (λ p. IsPlace job (place_at p)) → AreLeft job samples (option_map place_at at) left → left ≤ 4294967296
left-few no_more job samples at left is some short few place are =
    omega (arith, no_more job samples (option_map place_at at) left is some short (by at place) are, few)
  where
    by : (o : Option Spot) → IfSome o (λ p. IsPlace job (place_at p)) → IfSome (option_map place_at o) (IsPlace job)
    by None place = tt
    by (Some p) place = place

module _ {D : Type 0} (seen : D → Option (List ℕ)) (moment : D → ℕ) (may_leave : D → ℕ → List ℕ → Type 0) where
  looked-cause : (files : Files) (job : List ℕ) (vex : Option (List ℕ)) (epoch : Option ℕ) (plan : Plan) (images : List ℕ → Type 0) (before after old : Option (List ℕ)) (r : Refusal)
      → SurveyOf files job vex epoch (Ok plan)
      → IsLookedFor (identity_under files job vex plan) (sizes_of plan) before r
      → IsCauseOf r (OutcomeFrom (Ok (Status job vex epoch)) files) files images before after old old
  looked-cause files job vex epoch plan images before after old Memory there of = tt
  looked-cause files job vex epoch plan images before after old (Words fault) there of = absurd of
  looked-cause files job vex epoch plan images before after old (DueRefusal due) there of = absurd of
  looked-cause files job vex epoch plan images before after old (Other d) there of = record {
    call = call_of false job vex epoch None plan;
    outcome = status-planned files job vex epoch plan there;
    other = of;
  }
  looked-cause files job vex epoch plan images before after old Read there of = absurd of
  looked-cause files job vex epoch plan images before after old (Journal None) there of = record {
    call = call_of false job vex epoch None plan;
    outcome = status-planned files job vex epoch plan there;
    says = λ run. absurd (not_both false run refl);
    unnamed = λ _. refl;
  }
  looked-cause files job vex epoch plan images before after old (Journal (Some k)) there of = absurd of
  looked-cause files job vex epoch plan images before after old Write there of = absurd of

  looked-part : (outcomes : Outcomes Task) (files : Files) (id : List ℕ) (sizes : JobSizes) (before before' after old : Option (List ℕ)) (r : Refusal)
      → IsLookedFor id sizes before r → IsPartly r outcomes files before' after old old
  looked-part outcomes files id sizes before before' after old Memory of = inl refl
  looked-part outcomes files id sizes before before' after old (Words fault) of = refl
  looked-part outcomes files id sizes before before' after old (DueRefusal due) of = refl
  looked-part outcomes files id sizes before before' after old (Other d) of = refl
  looked-part outcomes files id sizes before before' after old Read of = inl refl
  looked-part outcomes files id sizes before before' after old (Journal kept) of = inl refl
  looked-part outcomes files id sizes before before' after old Write of = absurd of

  does-looked : (files : Files) (job : List ℕ) (vex : Option (List ℕ)) (epoch : Option ℕ) (plan : Plan) (id : List ℕ) (sizes : JobSizes) (before after : D) (old : Option (List ℕ)) (r : Refusal)
      → SurveyOf files job vex epoch (Ok plan) → id ≡ identity_under files job vex plan → sizes ≡ sizes_of plan
      → IsLookedFor id sizes (seen before) r → Looks seen moment may_leave before after
      → Does (Ok (Status job vex epoch)) files seen moment may_leave before after old old (Err r)
  does-looked files job vex epoch plan id sizes before after old r there same cut of looks = record {
    goes = inl looks;
    done = tt;
    cause = looked-cause files job vex epoch plan (may_leave after (moment after)) (seen before) (seen after) old r there
        (subst (λ (i : List ℕ). IsLookedFor i (sizes_of plan) (seen before) r) same
        (subst (λ (z : JobSizes). IsLookedFor id z (seen before) r) cut of));
    part = looked-part (OutcomeFrom (Ok (Status job vex epoch)) files) files id sizes (seen before) (seen before) (seen after) old r of;
  }

  -- the number of epochs that was read, and its line
  module _ (files : Files) (job : List ℕ) (vex : Option (List ℕ)) (epoch : Option ℕ) (plan : Plan) (there : SurveyOf files job vex epoch (Ok plan)) (s : Seen) (left : ℕ)
      (are_left : AreLeft (sizes_of plan) (unwrap_or epoch plan.epoch) (option_map place_at s.next) left) where
    abbrev call : Call
    call = call_of false job vex epoch None plan

    abbrev Saw : List ℕ → Type 0
    Saw image = Sees (identity_under files job vex plan) (sizes_of plan) image s

    kept-text : (before : Option (List ℕ)) → WhereTold before Saw → WhereTold before (λ image. IsKeptLine files call image (kept_line s.kept (s.kept + left)))
    kept-text None sees = tt
    kept-text (Some image) sees = record {
      kept = s.kept;
      many = sees.many;
      due = option_map place_at s.next;
      is_due = (sees.blank, sees.next);
      left = left;
      are_left = are_left;
      line = refl;
    }

    kept-opened : (before : Option (List ℕ)) → WhereTold before Saw → WhereTold before (IsOursFor files call)
    kept-opened None sees = tt
    kept-opened (Some image) sees = (sees.many.kept, sees.many.keeps)

    no-run : (other : Call) → OfJob call ≡ OfJob other → other.sums ≡ true → ⊥
    no-run other same run = not_both false (subst (λ (c : Call). c.sums ≡ true) (sym (one-job call other same)) run) refl

    does-kept-at : {E : Type 0} (before after : D) (old new : Option (List ℕ)) (count now : ℕ) (r : Result (Unit {0}) E) → Looks seen moment may_leave before after
        → WhereTold (seen before) Saw
        → Appends old new (kept_line s.kept (s.kept + left)) count now r
        → Does (Ok (Status job vex epoch)) files seen moment may_leave before after old new (written_with r)
    does-kept-at before after old new count now (Ok x) looks sees appends = record {
      goes = inl looks;
      done = record {
        task = OfJob call;
        outcome = status-planned files job vex epoch plan there;
        opened = kept-opened (seen before) sees;
        text = kept_line s.kept (s.kept + left);
        is = kept-text (seen before) sees;
        told = appends.ok;
        all = λ other same run. absurd (no-run other same run);
        sums = λ other same run. absurd (no-run other same run);
      };
      cause = tt;
      part = tt;
    }
    does-kept-at before after old new count now (Err e) looks sees appends = record {
      goes = inl looks;
      done = tt;
      cause = record {
        task = OfJob call;
        outcome = status-planned files job vex epoch plan there;
        opened = kept-opened (seen before) sees;
      };
      part = record {
        task = OfJob call;
        outcome = status-planned files job vex epoch plan there;
        text = kept_line s.kept (s.kept + left);
        is = kept-text (seen before) sees;
        part = appends.prefix;
      };
    }

  does-kept : {E : Type 0} (files : Files) (job : List ℕ) (vex : Option (List ℕ)) (epoch : Option ℕ) (plan : Plan) (id : List ℕ) (sizes : JobSizes) (samples : ℕ) (s : Seen) (left : ℕ) (before after : D)
      (old new : Option (List ℕ)) (count now : ℕ) (r : Result (Unit {0}) E)
      → SurveyOf files job vex epoch (Ok plan) → id ≡ identity_under files job vex plan → sizes ≡ sizes_of plan → samples ≡ unwrap_or epoch plan.epoch
      → Looks seen moment may_leave before after
      → WhereTold (seen before) (λ image. Sees id sizes image s) → AreLeft sizes samples (option_map place_at s.next) left
      → Appends old new (kept_line s.kept (s.kept + left)) count now r
      → Does (Ok (Status job vex epoch)) files seen moment may_leave before after old new (written_with r)
  does-kept files job vex epoch plan id sizes samples s left before after old new count now r there same cut in_force looks sees are_left appends =
      does-kept-at files job vex epoch plan there s left
      (subst (λ (n : ℕ). AreLeft (sizes_of plan) n (option_map place_at s.next) left) in_force
      (subst (λ (z : JobSizes). AreLeft z samples (option_map place_at s.next) left) cut are_left)) before after old new count now r looks
      (subst (λ (i : List ℕ). WhereTold (seen before) (λ image. Sees i (sizes_of plan) image s)) same
      (subst (λ (z : JobSizes). WhereTold (seen before) (λ image. Sees id z image s)) cut sees)) appends

  -- and where the shelf may tell nothing
  pub status-looked : (told : Option Files) (job : List ℕ) (vex : Option (List ℕ)) (epoch : Option ℕ) (plan : Plan) (id : List ℕ) (sizes : JobSizes) (before after : D) (old : Option (List ℕ)) (r : Refusal)
      → WhereTold told (λ files. SurveyOf files job vex epoch (Ok plan)) → WhereTold told (λ files. id ≡ identity_under files job vex plan) → sizes ≡ sizes_of plan
      → IsLookedFor id sizes (seen before) r → Looks seen moment may_leave before after
      → WhereTold told (λ files. Does (Ok (Status job vex epoch)) files seen moment may_leave before after old old (Err r))
  status-looked None job vex epoch plan id sizes before after old r there same cut of looks = tt
  status-looked (Some files) job vex epoch plan id sizes before after old r there same cut of looks =
      does-looked files job vex epoch plan id sizes before after old r there same cut of looks

  pub status-kept : {E : Type 0} (told : Option Files) (job : List ℕ) (vex : Option (List ℕ)) (epoch : Option ℕ) (plan : Plan) (id : List ℕ) (sizes : JobSizes) (samples : ℕ) (s : Seen) (left : ℕ)
      (before after : D) (old new : Option (List ℕ)) (count now : ℕ) (r : Result (Unit {0}) E)
      → WhereTold told (λ files. SurveyOf files job vex epoch (Ok plan)) → WhereTold told (λ files. id ≡ identity_under files job vex plan)
      → sizes ≡ sizes_of plan → samples ≡ unwrap_or epoch plan.epoch
      → Looks seen moment may_leave before after
      → WhereTold (seen before) (λ image. Sees id sizes image s) → AreLeft sizes samples (option_map place_at s.next) left
      → Appends old new (kept_line s.kept (s.kept + left)) count now r
      → WhereTold told (λ files. Does (Ok (Status job vex epoch)) files seen moment may_leave before after old new (written_with r))
  status-kept None job vex epoch plan id sizes samples s left before after old new count now r there same cut in_force looks sees are_left appends = tt
  status-kept (Some files) job vex epoch plan id sizes samples s left before after old new count now r there same cut in_force looks sees are_left appends =
      does-kept files job vex epoch plan id sizes samples s left before after old new count now r there same cut in_force looks sees are_left appends

  verdict-looks : (before after : D) (r : Refusal) → Looks seen moment may_leave before after → MatchVerdict r (seen after ≡ seen before) (Looks seen moment may_leave before after)
  verdict-looks before after Memory looks = tt
  verdict-looks before after (Words fault) looks = looks
  verdict-looks before after (DueRefusal due) looks = looks
  verdict-looks before after (Other x) looks = looks.same
  verdict-looks before after Read looks = tt
  verdict-looks before after (Journal kept) looks = tt
  verdict-looks before after Write looks = tt

  pub status-leaves : (job : List ℕ) (vex : Option (List ℕ)) (epoch : Option ℕ) (before after : D) (old new : Option (List ℕ)) (result : Result (Unit {0}) Refusal)
      → Looks seen moment may_leave before after → IfErr result (λ r. MatchDue r (new ≡ old)) → Leaves (Ok (Status job vex epoch)) seen moment may_leave before after old new result
  status-leaves job vex epoch before after old new result looks nothing = record {
    nothing = nothing;
    whole = λ run. absurd (not_both false run refl);
    untouched = λ _. looks;
    verdict = by result;
  }
    where
      by : (q : Result (Unit {0}) Refusal) → IfErr q (λ r. MatchVerdict r (seen after ≡ seen before) (Looks seen moment may_leave before after))
      by (Ok x) = tt
      by (Err r) = verdict-looks before after r looks
