-- What is wrong with the files of some stations, step by step.
use Rattle.std.proofs.Common.{◌≡◌, ◌∙◌, ◌≤◌, ◌<◌, ◌+◌, ℕ, true, false, cond, nat_lt, List, ◌∷◌, ◌++◌, length, get_or, drop, Option, None, Some, refl, sym, ap, subst, arith}
use Rattle.std.specs.List.{AllZip}
use Rattle.std.specs.Option.{option_to_list}
use Rattle.std.proofs.lemmas.Bool.Decides.{nat_tests}
use Rattle.std.proofs.lemmas.List.{drop_more}
use Rattle.corr_model.specs.Files.{Files}
use Rattle.job_join.specs.declared.fault.Quantity.TheVariants.{Slots}
use Rattle.job_plan.specs.declared.plan.StationPlan.{StationPlan}
use Rattle.run_notes.specs.declared.measure.Measure.TheVariants.{Job as OfJob}
use Rattle.run_notes.specs.Answers.{limit_answer}
use Rattle.run_notes.specs.declared.refusal.Refusal.{Refusal}
use Rattle.run_ready.specs.declared.recordings.StationFiles.{StationFiles}
use Rattle.run_ready.specs.Steps.{or_else}
use Rattle.run_ready.specs.Due.{IsDue}
use Rattle.run_ready.specs.Recordings.{slot_total, too_many_slots, foreign_answer, first_foreign, files_answer, recordings_answer}
use Rattle.run_ready.specs.Sizes.{no_file_for, IsSizedBy, AreShelved, slots_together}
use Rattle.run_ready.proofs.FilesLemmas.{slot_total-sized}
use Rattle.run_ready.proofs.FirstLemmas.{IsFirst, IsDue-or_else, IsDue-later}

pub IsFirst-first_foreign : (files : Files) → IsFirst (foreign_answer files) (first_foreign files)
IsFirst-first_foreign files = record { none = refl; more = λ s stations. refl }

-- what comes next of a list that is taken from its front
pub taken-next : {A : Type 0} (xs ys : List A) (o : Option A) (x : A) → xs ≡ option_to_list o ++ ys → o ≡ Some x → xs ≡ x ∷ ys
taken-next xs ys o x is at = is ∙ ap (λ p. option_to_list p ++ ys) at

-- the pairs behind the next one
pub AllZip-drop : {A B : Type 0} (R : A → B → Type 0) (xs : List A) (i : ℕ) (x : A) (zs ys : List B) (y : B)
    → i < length xs → zs ≡ y ∷ ys → AllZip R (drop i xs) zs → AllZip R (drop (i + 1) xs) ys
AllZip-drop {A} {B} R xs i x zs ys y inside is all =
    let P : List A → Type 0 = λ ws. AllZip R ws zs in
    let Q : List B → Type 0 = λ ws. AllZip R (get_or xs i x ∷ drop (i + 1) xs) ws in
    (subst Q is (subst P (drop_more xs i x inside) all)).1

-- a file that is not there comes first
pub IsDue-no_file : (files : Files) (stations : List StationPlan) (r : Refusal) → IsDue r (no_file_for files stations) → IsDue r (files_answer files stations)
unfolding files_answer
IsDue-no_file files stations r due = IsDue-or_else r (no_file_for files stations) (too_many_slots files stations) due

some_slots : (n total : ℕ) → n ≡ total → 67108864 < n → cond (nat_lt 67108864 total) (Some (limit_answer (OfJob Slots) total)) None ≡ Some (limit_answer (OfJob Slots) n)
some_slots n total same many =
    let test : nat_lt 67108864 total ≡ true = grind (arith, nat_tests) in
    ap (λ b. cond b (Some (limit_answer (OfJob Slots) total)) None) test ∙ ap (λ k. Some (limit_answer (OfJob Slots) k)) (sym same)

no_slots : (n total : ℕ) → n ≡ total → n ≤ 67108864 → cond (nat_lt 67108864 total) (Some (limit_answer (OfJob Slots) total)) None ≡ None
no_slots n total same few =
    let test : nat_lt 67108864 total ≡ false = grind (arith, nat_tests) in
    ap (λ b. cond b (Some (limit_answer (OfJob Slots) total)) None) test

-- then too many slots
pub files_answer-slots : (files : Files) (stations : List StationPlan) (sized : List StationFiles) (n : ℕ)
    → AllZip IsSizedBy stations sized → AreShelved sized files → n ≡ slots_together sized → no_file_for files stations ≡ None → 67108864 < n
    → files_answer files stations ≡ Some (limit_answer (OfJob Slots) n)
unfolding files_answer
files_answer-slots files stations sized n all are is none many =
    ap (λ o. or_else o (too_many_slots files stations)) none
    ∙ some_slots n (slot_total files stations) (is ∙ slot_total-sized files stations sized all are) many

-- and else nothing
pub files_answer-none : (files : Files) (stations : List StationPlan) (sized : List StationFiles) (n : ℕ)
    → AllZip IsSizedBy stations sized → AreShelved sized files → n ≡ slots_together sized → no_file_for files stations ≡ None → n ≤ 67108864
    → files_answer files stations ≡ None
unfolding files_answer
files_answer-none files stations sized n all are is none few =
    ap (λ o. or_else o (too_many_slots files stations)) none
    ∙ no_slots n (slot_total files stations) (is ∙ slot_total-sized files stations sized all are) few

-- what is wrong with the files is wrong with the recordings
pub IsDue-files : (files : Files) (stations : List StationPlan) (r : Refusal) → IsDue r (files_answer files stations) → IsDue r (recordings_answer files stations)
unfolding recordings_answer
IsDue-files files stations r due = IsDue-or_else r (files_answer files stations) (first_foreign files stations) due

-- then what they hold
pub IsDue-recordings : (files : Files) (stations : List StationPlan) (r : Refusal) → files_answer files stations ≡ None → IsDue r (first_foreign files stations)
    → IsDue r (recordings_answer files stations)
unfolding recordings_answer
IsDue-recordings files stations r fit due = IsDue-later r (files_answer files stations) (first_foreign files stations) fit due

-- and else nothing
pub recordings_answer-none : (files : Files) (stations : List StationPlan) → files_answer files stations ≡ None → first_foreign files stations ≡ None
    → recordings_answer files stations ≡ None
unfolding recordings_answer
recordings_answer-none files stations fit none = ap (λ o. or_else o (first_foreign files stations)) fit ∙ none
