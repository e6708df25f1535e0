-- Runs of calls on a disk, one after another.
use Rattle.std.specs.Prelude.{is_some}
use Rattle.std.proofs.Common.{◌≡◌, ◌∙◌, ℕ, List, refl, Option, Some, None, sym, ap, subst, arith}
use Rattle.dev_traits.specs.Images.{Same}
use Rattle.dev_traits.specs.Moments.{Goes, Runs, IsDurable, GoesOn}
use Rattle.dev_traits.specs.Told.{WhereTold}
use Rattle.dev_traits.proofs.Moments.{runs_none, runs_of, runs_both}
use Rattle.checkpoint_journal.specs.Runs.{Looks, Changes, StepTold}

same_both : (u v w : List ℕ) → Same u v → Same v w → Same u w
same_both u v w first second = second ∙ first

module _ {D : Type 0} (seen : D → Option (List ℕ)) (moment : D → ℕ) (may_leave : D → ℕ → List ℕ → Type 0) where
  pub looks_none : (d : D) → Looks seen moment may_leave d d
  looks_none d = record { same = refl; runs = runs_none moment may_leave Same (λ v. refl) d }

  -- one call that leaves what is there
  pub looks_of : (old new : D) → seen new ≡ seen old → Goes moment may_leave Same old new → Looks seen moment may_leave old new
  looks_of old new same goes = record {
    same = same;
    runs = runs_of moment may_leave Same (λ v. refl) Same old new goes (λ v image now step. step);
  }

  pub looks_both : (old mid new : D) → Looks seen moment may_leave old mid → Looks seen moment may_leave mid new → Looks seen moment may_leave old new
  looks_both old mid new first second = record {
    same = second.same ∙ first.same;
    runs = runs_both moment may_leave Same (λ v. refl) same_both old mid new first.runs second.runs;
  }

  pub looks_three : (a b c d : D) → Looks seen moment may_leave a b → Looks seen moment may_leave b c → Looks seen moment may_leave c d → Looks seen moment may_leave a d
  looks_three a b c d first second third = looks_both a c d (looks_both a b c first second) third

  -- such a call, and then such a run
  pub looks_after : (old mid new : D) → seen mid ≡ seen old → Goes moment may_leave Same old mid → Looks seen moment may_leave mid new → Looks seen moment may_leave old new
  looks_after old mid new same goes rest = looks_both old mid new (looks_of old mid same goes) rest

-- three runs of calls that only read
pub stays_joined : {D : Type 0} (stays : D → D → Type 0) → GoesOn stays → (a b c d : D) → stays a b → stays b c → stays c d → stays a d
stays_joined stays on a b c d first second third = on.both a c d (on.both a b c first second) third

-- Steps that lead on: from what the images of a moment are to a run of calls.
same_some : (a b : List ℕ) → Some a ≡ Some b → a ≡ b
same_some a b e = cc

-- what is read comes from what was read, where the images do
pub read_steps : (step : List ℕ → List ℕ → Type 0) (old new : Option (List ℕ)) → is_some new ≡ is_some old
    → ((v image : List ℕ) → old ≡ Some v → new ≡ Some image → step v image) → StepTold step old new
read_steps step None None tells here = tt
read_steps step None (Some image) tells here = cc
read_steps step (Some v) None tells here = cc
read_steps step (Some v) (Some image) tells here = here v image refl refl

module _ {D : Type 0} (seen : D → Option (List ℕ)) (moment : D → ℕ) (may_leave : D → ℕ → List ℕ → Type 0) where
  pub changes_none : (step : List ℕ → List ℕ → Type 0) → ((v : List ℕ) → step v v) → (d : D) → Changes seen moment may_leave step d d
  changes_none step stays d = record { read = read_steps step (seen d) (seen d) refl (λ v image old new. subst (step v) (same_some v image (sym old ∙ new)) (stays v)); runs = runs_none moment may_leave step stays d }

  step_joined : (step : List ℕ → List ℕ → Type 0) → ((u v w : List ℕ) → step u v → step v w → step u w) → (old mid new : Option (List ℕ)) → StepTold step old mid → StepTold step mid new → StepTold step old new
  step_joined step joins None None None first second = tt
  step_joined step joins None None (Some w) first second = absurd second
  step_joined step joins None (Some v) new first second = absurd first
  step_joined step joins (Some u) None new first second = absurd first
  step_joined step joins (Some u) (Some v) None first second = absurd second
  step_joined step joins (Some u) (Some v) (Some w) first second = joins u v w first second

  pub changes_both : (step : List ℕ → List ℕ → Type 0) → ((v : List ℕ) → step v v) → ((u v w : List ℕ) → step u v → step v w → step u w) → (old mid new : D)
      → Changes seen moment may_leave step old mid → Changes seen moment may_leave step mid new → Changes seen moment may_leave step old new
  changes_both step stays joins old mid new first second = record {
    read = step_joined step joins (seen old) (seen mid) (seen new) first.read second.read;
    runs = runs_both moment may_leave step stays joins old mid new first.runs second.runs;
  }

  -- a run that writes nothing
  pub changes_looks : (step : List ℕ → List ℕ → Type 0) → ((v : List ℕ) → step v v) → (old new : D) → Looks seen moment may_leave old new → Changes seen moment may_leave step old new
  changes_looks step stays old new looks = record {
    read = read_steps step (seen old) (seen new) (ap is_some looks.same) (λ v image before now. subst (step v) (same_some v image (sym before ∙ sym looks.same ∙ now)) (stays v));
    runs = record {
      later = looks.runs.later;
      past = looks.runs.past;
      kept = looks.runs.kept;
      comes = λ t t' image low up high now.
          let from = looks.runs.comes t t' image low up high now in
          (from.0, from.1, subst (step from.0) (sym from.2) (stays from.0));
    };
  }

  -- A run that begins where the one image is what is read: its steps may be told by where they come from.
  pub changes_of : (torn step : List ℕ → List ℕ → Type 0) → ((v : List ℕ) → torn v v) → (old new : D)
      → IsDurable (seen old) (may_leave old (moment old))
      → WhereTold (seen new) (may_leave new (moment new))
      → is_some (seen new) ≡ is_some (seen old)
      → Runs moment may_leave torn old new
      → ((u v image : List ℕ) → seen old ≡ Some u → torn u v → torn v image → step v image)
      → Changes seen moment may_leave step old new
  changes_of torn step stays old new durable law tells runs widen = record {
    read = read_steps step (seen old) (seen new) tells (λ v image before now.
        let there : may_leave new (moment new) image = told_at image now in
        let from = runs.comes (moment old) (moment new) image (omega arith) runs.later (omega arith) there in
        let start = durable from.0 (runs.past (moment old) from.0 (omega arith) from.1) in
        let same : from.0 ≡ v = same_some from.0 v (sym start ∙ before) in
        widen v v image before (stays v) (subst (λ w. torn w image) same from.2));
    runs = record {
      later = runs.later;
      past = runs.past;
      kept = runs.kept;
      comes = λ t t' image low up high now.
          let from = runs.comes t t' image low up high now in
          let begun = runs.comes (moment old) t from.0 (omega arith) low (omega (arith, up, high)) from.1 in
          let start = durable begun.0 (runs.past (moment old) begun.0 (omega arith) begun.1) in
          (from.0, from.1, widen begun.0 from.0 image start begun.2 from.2);
    };
  }
    where
      told_at : (image : List ℕ) → seen new ≡ Some image → may_leave new (moment new) image
      told_at image now = let P : Option (List ℕ) → Type 0 = λ o. WhereTold o (may_leave new (moment new)) in subst P now law

-- a step that does not depend on where it began
pub runs_wider : {D : Type 0} (moment : D → ℕ) (may_leave : D → ℕ → List ℕ → Type 0) (torn step : List ℕ → List ℕ → Type 0) (old new : D) → ((v image : List ℕ) → torn v image → step v image) → Runs moment may_leave torn old new → Runs moment may_leave step old new
runs_wider moment may_leave torn step old new widen runs = record {
  later = runs.later;
  past = runs.past;
  kept = runs.kept;
  comes = λ t t' image low up high now. let from = runs.comes t t' image low up high now in (from.0, from.1, widen from.0 image from.2);
}

-- what is told, at the content
pub told_value : (seen : Option (List ℕ)) (P : List ℕ → Type 0) (v : List ℕ) → seen ≡ Some v → WhereTold seen P → P v
told_value seen P v is fact = let Q : Option (List ℕ) → Type 0 = λ o. WhereTold o P in subst Q is fact

-- nothing is written, so the one image stays the one
pub durable_looks : {D : Type 0} (seen : D → Option (List ℕ)) (moment : D → ℕ) (may_leave : D → ℕ → List ℕ → Type 0) (old new : D) → Looks seen moment may_leave old new → IsDurable (seen old) (may_leave old (moment old)) → IsDurable (seen new) (may_leave new (moment new))
durable_looks seen moment may_leave old new looks durable image now =
    let from = looks.runs.comes (moment old) (moment new) image (omega arith) looks.runs.later (omega arith) now in
    let start = durable from.0 (looks.runs.past (moment old) from.0 (omega arith) from.1) in
    looks.same ∙ start ∙ ap (λ (v : List ℕ). Some v) (sym from.2)
