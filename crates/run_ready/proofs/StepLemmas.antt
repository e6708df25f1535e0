-- Steps one behind the other, on what a shelf tells.
use Rattle.std.proofs.Common.{◌≡◌, ℕ, Option, Some, None, Result, Ok, Err, sym, ap, subst}
use Rattle.std.proofs.Common.{inl, inr}
use Rattle.std.specs.Prelude.{IfOk, IfErr}
use Rattle.dev_traits.specs.Fault.{HasRisen}
use Rattle.dev_traits.specs.Told.{WhereTold}
use Rattle.run_notes.specs.Answers.{Answer, words_answer, other_answer}
use Rattle.run_notes.specs.Refusals.{Outcomes, IsCause, MatchRead, due_answer}
use Rattle.run_notes.specs.Counted.{CountsReads}
use Rattle.run_notes.specs.declared.refusal.Refusal.{Refusal}
use Rattle.run_notes.specs.declared.refusal.Refusal.TheVariants.{Memory, Words, Due as DueRefusal, Other, Read, Journal, Write}
use Rattle.run_ready.specs.Steps.{Is, Then, unless}
use Rattle.run_ready.specs.Due.{IsDue}
use Rattle.run_ready.specs.Stage.{IsOfFiles, IsOfTexts}
use Rattle.run_ready.proofs.ToldLemmas.{WhereTold-then}

-- a cause in the first step is one of both
pub IsCause-first : {A B : Type 0} (r : Refusal) (first : Outcomes A) (next : A → Outcomes B) → IsOfFiles r → IsCause r first → IsCause r (Then first next)
IsCause-first Memory first next stage cause = tt
IsCause-first (Words fault) first next stage cause = inl cause
IsCause-first (DueRefusal due) first next stage cause = inl cause
IsCause-first (Other d) first next stage cause = inl cause
IsCause-first Read first next stage cause = tt
IsCause-first (Journal kept) first next stage cause = absurd stage
IsCause-first Write first next stage cause = absurd stage

-- and so is one in the second step, behind what the first comes to
pub IsCause-next : {A B : Type 0} (r : Refusal) (first : Outcomes A) (next : A → Outcomes B) (a : A) → IsOfFiles r → first (Ok a) → IsCause r (next a) → IsCause r (Then first next)
IsCause-next Memory first next a stage is cause = tt
IsCause-next (Words fault) first next a stage is cause = inr (a, is, cause)
IsCause-next (DueRefusal due) first next a stage is cause = inr (a, is, cause)
IsCause-next (Other d) first next a stage is cause = inr (a, is, cause)
IsCause-next Read first next a stage is cause = tt
IsCause-next (Journal kept) first next a stage is cause = absurd stage
IsCause-next Write first next a stage is cause = absurd stage

-- what an answer makes due is a cause that there is not the thing
pub IsCause-unless : {A : Type 0} (r : Refusal) (v : Option Answer) (x : A) → IsDue r v → IsCause r (Is (unless v x))
IsCause-unless Memory v x due = tt
IsCause-unless (Words fault) v x due = ap (λ o. unless o x) (sym due)
IsCause-unless (DueRefusal d) v x due = ap (λ o. unless o x) (sym due)
IsCause-unless (Other d) v x due = ap (λ o. unless o x) (sym due)
IsCause-unless Read v x due = tt
IsCause-unless (Journal kept) v x due = absurd due
IsCause-unless Write v x due = absurd due

-- what texts may be refused for is of the files, and no read fault
pub IsOfFiles-texts : (r : Refusal) → IsOfTexts r → IsOfFiles r
IsOfFiles-texts Memory stage = tt
IsOfFiles-texts (DueRefusal due) stage = tt
IsOfFiles-texts r stage = absurd stage

pub MatchRead-texts : (r : Refusal) (P Q : Type 0) → IsOfTexts r → Q → MatchRead r P Q
MatchRead-texts Read P Q stage q = absurd stage
MatchRead-texts r P Q stage q = q

pub CountsReads-texts : {T : Type 0} (result : Result T Refusal) (before now : ℕ) → IfErr result IsOfTexts → now ≡ before → CountsReads before now result
CountsReads-texts (Ok x) before now stage same = same
CountsReads-texts (Err r) before now stage same = MatchRead-texts r (HasRisen before now) (now ≡ before) stage same

-- a cause among some outcomes is one among more
pub IsCause-among : {A : Type 0} (r : Refusal) (some more : Outcomes A) → ((x : Result A Answer) → some x → more x) → IsCause r some → IsCause r more
IsCause-among Memory some more follows cause = tt
IsCause-among (Words fault) some more follows cause = follows (Err (words_answer fault)) cause
IsCause-among (DueRefusal due) some more follows cause = follows (Err (due_answer due)) cause
IsCause-among (Other d) some more follows cause = follows (Err (other_answer d)) cause
IsCause-among Read some more follows cause = tt
IsCause-among (Journal kept) some more follows cause = (cause.0, follows (Ok cause.0) cause.1)
IsCause-among Write some more follows cause = (cause.0, follows (Ok cause.0) cause.1)

-- two facts about a thing
pub IfOk-both : {T E : Type 0} (r : Result T E) (P Q R : T → Type 0) → ((x : T) → P x → Q x → R x) → IfOk r P → IfOk r Q → IfOk r R
IfOk-both (Ok x) P Q R follows p q = follows x p q
IfOk-both (Err y) P Q R follows p q = tt

-- two facts about a fault
pub IfErr-both : {T E : Type 0} (r : Result T E) (P Q R : E → Type 0) → ((y : E) → P y → Q y → R y) → IfErr r P → IfErr r Q → IfErr r R
IfErr-both (Ok x) P Q R follows p q = tt
IfErr-both (Err y) P Q R follows p q = follows y p q

-- what is told later was told before
pub IfOk-moved : {F T E : Type 0} {told later : Option F} (r : Result T E) (P : T → F → Type 0) → later ≡ told → IfOk r (λ x. WhereTold later (P x)) → IfOk r (λ x. WhereTold told (P x))
IfOk-moved {F} (Ok x) P same fact = subst (λ (t : Option F). WhereTold t (P x)) same fact
IfOk-moved (Err y) P same fact = tt

-- what follows for a fault from what was told before and what is told later
pub IfErr-then : {F T E : Type 0} {told later : Option F} (r : Result T E) (P : F → Type 0) (Q R : E → F → Type 0) → ((y : E) (files : F) → P files → Q y files → R y files)
    → later ≡ told → WhereTold told P → IfErr r (λ y. WhereTold later (Q y)) → IfErr r (λ y. WhereTold told (R y))
IfErr-then (Ok x) P Q R follows same before fact = tt
IfErr-then {told = told} {later = later} (Err y) P Q R follows same before fact = WhereTold-then told later P (Q y) (R y) (follows y) same before fact

-- the same where the files are told, by the first step
pub Told-first : {F A B : Type 0} (told : Option F) (r : Refusal) (first : F → Outcomes A) (next : F → A → Outcomes B)
    → IsOfFiles r → WhereTold told (λ files. IsCause r (first files)) → WhereTold told (λ files. IsCause r (Then (first files) (next files)))
Told-first None r first next stage cause = tt
Told-first (Some files) r first next stage cause = IsCause-first r (first files) (next files) stage cause

-- by the second, which tells what was told before
pub Told-next : {F A B : Type 0} (told later : Option F) (r : Refusal) (first : F → Outcomes A) (next : F → A → Outcomes B) (a : A)
    → later ≡ told → IsOfFiles r → WhereTold told (λ files. first files (Ok a)) → WhereTold later (λ files. IsCause r (next files a))
    → WhereTold told (λ files. IsCause r (Then (first files) (next files)))
Told-next {F} told later r first next a same stage is cause =
    by told is (subst (λ (t : Option F). WhereTold t (λ files. IsCause r (next files a))) same cause)
  where
    by : (t : Option F) → WhereTold t (λ files. first files (Ok a)) → WhereTold t (λ files. IsCause r (next files a)) → WhereTold t (λ files. IsCause r (Then (first files) (next files)))
    by None is cause = tt
    by (Some files) is cause = IsCause-next r (first files) (next files) a stage is cause

-- and what both come to
pub Told-done : {F A B : Type 0} (told later : Option F) (first : F → Outcomes A) (next : F → A → Outcomes B) (a : A) (b : B)
    → later ≡ told → WhereTold told (λ files. first files (Ok a)) → WhereTold later (λ files. next files a (Ok b))
    → WhereTold told (λ files. Then (first files) (next files) (Ok b))
Told-done {F} told later first next a b same is done =
    by told is (subst (λ (t : Option F). WhereTold t (λ files. next files a (Ok b))) same done)
  where
    by : (t : Option F) → WhereTold t (λ files. first files (Ok a)) → WhereTold t (λ files. next files a (Ok b)) → WhereTold t (λ files. Then (first files) (next files) (Ok b))
    by None is done = tt
    by (Some files) is done = (a, is, done)
