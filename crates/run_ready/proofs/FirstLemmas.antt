-- The first answer that some things give, thing by thing.
use Rattle.std.proofs.Common.{◌≡◌, ◌∙◌, ◌≤◌, ◌<◌, ◌+◌, ℕ, Bool, true, false, cond, List, [], ◌∷◌, length, get_or, drop, Option, None, Some, is_none, refl, sym, ap, subst}
use Rattle.std.specs.Prelude.{find, flat_map, option_map}
use Rattle.std.specs.Option.{option_or}
use Rattle.std.proofs.lemmas.List.{drop_more, drop_all}
use Rattle.std.proofs.lemmas.List.Folds.{find-append}
use Rattle.dev_traits.specs.Told.{WhereTold}
use Rattle.corr_model.specs.Files.{Files}
use Rattle.job_plan.specs.declared.plan.StationPlan.{StationPlan}
use Rattle.run_notes.specs.Answers.{Answer, no_file_answer}
use Rattle.run_notes.specs.declared.refusal.Refusal.{Refusal}
use Rattle.run_notes.specs.declared.refusal.Refusal.TheVariants.{Memory, Words, Due as DueRefusal, Other, Read, Journal, Write}
use Rattle.run_ready.specs.Steps.{or_else}
use Rattle.run_ready.specs.Due.{IsDue}
use Rattle.run_ready.specs.Sizes.{no_file, no_file_of, no_file_for}
use Rattle.run_ready.proofs.ToldLemmas.{WhereTold-then}

-- what is due by the first answer is due by the first of two
pub IsDue-or_else : (r : Refusal) (v w : Option Answer) → IsDue r v → IsDue r (or_else v w)
IsDue-or_else Memory v w due = tt
IsDue-or_else (Words fault) v w due = ap (λ o. or_else o w) due
IsDue-or_else (DueRefusal d) v w due = ap (λ o. or_else o w) due
IsDue-or_else (Other x) v w due = ap (λ o. or_else o w) due
IsDue-or_else Read v w due = tt
IsDue-or_else (Journal kept) v w due = due
IsDue-or_else Write v w due = due

-- and so is what is due by the second where there is no first
pub IsDue-later : (r : Refusal) (v w : Option Answer) → v ≡ None → IsDue r w → IsDue r (or_else v w)
IsDue-later r v w none due = subst (IsDue r) (sym (ap (λ o. or_else o w) none)) due

-- F gives the first answer that f gives of a list's items.
pub record IsFirst {A : Type 0} (f : A → Option Answer) (F : List A → Option Answer) : Type 0 where
  pub none : F [] ≡ None
  pub more : (x : A) (xs : List A) → F (x ∷ xs) ≡ or_else (f x) (F xs)

at_item : {A : Type 0} (f : A → Option Answer) (F : List A → Option Answer) (is : IsFirst f F) (xs : List A) (i : ℕ) (x : A)
    → i < length xs → x ≡ get_or xs i x → F (drop i xs) ≡ F xs → F xs ≡ or_else (f x) (F (drop (i + 1) xs))
at_item f F is xs i x inside at so_far =
    sym so_far ∙ ap F (drop_more xs i x inside) ∙ is.more (get_or xs i x) (drop (i + 1) xs)
    ∙ ap (λ y. or_else (f y) (F (drop (i + 1) xs))) (sym at)

-- one item on, where the item gives none
pub first-next : {A : Type 0} (f : A → Option Answer) (F : List A → Option Answer) (is : IsFirst f F) (xs : List A) (i : ℕ) (x : A)
    → i < length xs → x ≡ get_or xs i x → F (drop i xs) ≡ F xs → f x ≡ None → F (drop (i + 1) xs) ≡ F xs
first-next f F is xs i x inside at so_far none =
    sym (at_item f F is xs i x inside at so_far ∙ ap (λ o. or_else o (F (drop (i + 1) xs))) none)

-- what is due by the item is due by all
pub first-stop : {A : Type 0} (f : A → Option Answer) (F : List A → Option Answer) (is : IsFirst f F) (xs : List A) (i : ℕ) (x : A) (r : Refusal)
    → i < length xs → x ≡ get_or xs i x → F (drop i xs) ≡ F xs → IsDue r (f x) → IsDue r (F xs)
first-stop f F is xs i x r inside at so_far due =
    subst (IsDue r) (sym (at_item f F is xs i x inside at so_far)) (IsDue-or_else r (f x) (F (drop (i + 1) xs)) due)

-- at the end there is none
pub first-end : {A : Type 0} (f : A → Option Answer) (F : List A → Option Answer) (is : IsFirst f F) (xs : List A) (i : ℕ)
    → length xs ≤ i → F (drop i xs) ≡ F xs → F xs ≡ None
first-end f F is xs i all so_far = sym so_far ∙ ap F (drop_all i xs all) ∙ is.none

-- the same where the files are told, before the item and at it
module _ {A : Type 0} {told later : Option Files} (f : Files → A → Option Answer) (F : Files → List A → Option Answer) (is : (files : Files) → IsFirst (f files) (F files))
    (xs : List A) (i : ℕ) (x : A) (inside : i < length xs) (at : x ≡ get_or xs i x) (same : later ≡ told) (so_far : WhereTold told (λ files. F files (drop i xs) ≡ F files xs)) where
  pub told-next : WhereTold later (λ files. f files x ≡ None) → WhereTold told (λ files. F files (drop (i + 1) xs) ≡ F files xs)
  told-next none = WhereTold-then told later _ _ _ (λ files. first-next (f files) (F files) (is files) xs i x inside at) same so_far none

  pub told-stop : (r : Refusal) → WhereTold later (λ files. IsDue r (f files x)) → WhereTold told (λ files. IsDue r (F files xs))
  told-stop r due = WhereTold-then told later _ _ _ (λ files. first-stop (f files) (F files) (is files) xs i x r inside at) same so_far due

no_file_of-more : (files : Files) (name : List ℕ) (names : List (List ℕ)) → no_file_of files (name ∷ names) ≡ or_else (no_file files name) (no_file_of files names)
no_file_of-more files name names = by (is_none (files name))
  where
    by : (b : Bool) → option_map no_file_answer (cond b (Some name) (find (λ name. is_none (files name)) names)) ≡ or_else (cond b (Some (no_file_answer name)) None) (no_file_of files names)
    by true = refl
    by false = refl

pub IsFirst-no_file_of : (files : Files) → IsFirst (no_file files) (no_file_of files)
IsFirst-no_file_of files = record { none = refl; more = no_file_of-more files }

option_map-option_or : (a b : Option (List ℕ)) → option_map no_file_answer (option_or a b) ≡ or_else (option_map no_file_answer a) (option_map no_file_answer b)
option_map-option_or None b = refl
option_map-option_or (Some a) b = refl

pub IsFirst-no_file_for : (files : Files) → IsFirst (λ (s : StationPlan). no_file_of files s.files) (no_file_for files)
IsFirst-no_file_for files = record {
  none = refl;
  more = λ s stations.
      ap (option_map no_file_answer) (find-append (λ name. is_none (files name)) s.files (flat_map (λ (s : StationPlan). s.files) stations))
      ∙ option_map-option_or (find (λ name. is_none (files name)) s.files) (find (λ name. is_none (files name)) (flat_map (λ (s : StationPlan). s.files) stations));
}
