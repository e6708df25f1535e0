-- The first of some shards that covers an integration.
use Rattle.std.specs.Prelude.{if◌then◌else◌, replicate}
use Rattle.std.proofs.Common.{◌≡◌, ◌∙◌, sym, ap, refl, subst, ℕ, zero, suc, ◌+◌, ◌<◌, ◌≤◌, Bool, true, false, List, [], ◌∷◌, length, drop, get_or, arith}
use Rattle.std.specs.List.{AllZip}
use Rattle.std.proofs.lemmas.List.{drop_all, drop_more}
use Rattle.corr_model.specs.declared.cell.Cell.{Cell}
use Rattle.corr_model.specs.Cell.{no_cell}
use Rattle.corr_model.specs.Files.{Files}
use Rattle.piece_plan.specs.Epochs.{JobSizes}
use Rattle.journal_image.specs.Image.{KeptEpoch}
use Rattle.shard_merge.specs.declared.shard.Shard.{Shard}
use Rattle.shard_merge.specs.Covers.{covers, epochs_of_kept, width_at, added, kept_in, covering}
use Rattle.shard_merge.specs.Merged.{first_image, merged_cells}
use Rattle.shard_merge.specs.Reading.{IsReadFrom, AreReadFrom}

-- what stands at one place of two lists, and how long they are
same_place : {A B : Type 0} (R : A → B → Type 0) (xs : List A) (ys : List B) (k : ℕ) (d : A) (e : B) → AllZip R xs ys → k < length xs
    → R (get_or xs k d) (get_or ys k e)
same_place R [] ys k d e h l = absurd (omega (arith, l))
same_place R (x ∷ xs) [] k d e h l = absurd h
same_place R (x ∷ xs) (y ∷ ys) zero d e h l = h.0
same_place R (x ∷ xs) (y ∷ ys) (suc k) d e h l = same_place R xs ys k d e h.1 (omega (arith, l))

as_long : {A B : Type 0} (R : A → B → Type 0) (xs : List A) (ys : List B) → AllZip R xs ys → length xs ≡ length ys
as_long R [] [] h = refl
as_long R [] (y ∷ ys) h = absurd h
as_long R (x ∷ xs) [] h = absurd h
as_long R (x ∷ xs) (y ∷ ys) h = ap suc (as_long R xs ys h.1)

module _ (files : Files) (id : List ℕ) (job : JobSizes) (number m : ℕ) (shards : List Shard) (keeps : List (List KeptEpoch))
    (read : AreReadFrom files id job shards keeps) where
  long : length shards ≡ length keeps
  long = as_long (IsReadFrom files id job) shards keeps read

  read-at : (k : ℕ) (s : Shard) → k < length shards → s ≡ get_or shards k s → IsReadFrom files id job s (get_or keeps k [])
  read-at k s within is =
      subst (λ (s : Shard). IsReadFrom files id job s (get_or keeps k [])) (sym is) (same_place (IsReadFrom files id job) shards keeps k s [] read within)

  covering-at : (k : ℕ) (s : Shard) (b : Bool) → k < length shards → s ≡ get_or shards k s
      → ((files : Files) (id : List ℕ) (kept : List KeptEpoch) → IsReadFrom files id job s kept → b ≡ covers job number m (epochs_of_kept kept))
      → covering job number m (drop k keeps)
      ≡ if b then get_or keeps k [] ∷ covering job number m (drop (k + 1) keeps) else covering job number m (drop (k + 1) keeps)
  covering-at k s b within is tells =
      ap (covering job number m) (drop_more keeps k [] (omega (arith, within, long)))
      ∙ ap (λ (b : Bool). if b then get_or keeps k [] ∷ covering job number m (drop (k + 1) keeps) else covering job number m (drop (k + 1) keeps))
      (sym (tells files id (get_or keeps k []) (read-at k s within is)))

  -- none so far, and the next one neither
  pub first-passed : (k : ℕ) (s : Shard) (b : Bool) → k < length shards → s ≡ get_or shards k s → b ≡ false
      → ((files : Files) (id : List ℕ) (kept : List KeptEpoch) → IsReadFrom files id job s kept → b ≡ covers job number m (epochs_of_kept kept))
      → covering job number m (drop k keeps) ≡ covering job number m keeps
      → covering job number m (drop (k + 1) keeps) ≡ covering job number m keeps
  first-passed k s b within is passed tells before =
      sym (covering-at k s b within is tells
      ∙ ap (λ (b : Bool). if b then get_or keeps k [] ∷ covering job number m (drop (k + 1) keeps) else covering job number m (drop (k + 1) keeps)) passed)
      ∙ before

  -- none so far, and the next one does
  pub first-found : (k : ℕ) (s : Shard) (b : Bool) → k < length shards → s ≡ get_or shards k s → b ≡ true
      → ((files : Files) (id : List ℕ) (kept : List KeptEpoch) → IsReadFrom files id job s kept → b ≡ covers job number m (epochs_of_kept kept))
      → covering job number m (drop k keeps) ≡ covering job number m keeps
      → IsReadFrom files id job s (first_image (covering job number m keeps))
  first-found k s b within is found tells before =
      let first : get_or keeps k [] ≡ first_image (covering job number m keeps) =
      ap first_image (sym (covering-at k s b within is tells
      ∙ ap (λ (b : Bool). if b then get_or keeps k [] ∷ covering job number m (drop (k + 1) keeps) else covering job number m (drop (k + 1) keeps)) found)
      ∙ before) in
      subst (λ (kept : List KeptEpoch). IsReadFrom files id job s kept) first (read-at k s within is)

  -- none of all
  pub first-none : (k : ℕ) → length shards ≤ k → covering job number m (drop k keeps) ≡ covering job number m keeps
      → first_image (covering job number m keeps) ≡ []
  first-none k past before =
      ap first_image (sym before) ∙ ap (λ (l : List (List KeptEpoch)). first_image (covering job number m l)) (drop_all k keeps (omega (arith, past, long)))

-- the cells of the first one, and those where there is none
pub first-summed : (job : JobSizes) (number m n : ℕ) (keeps : List (List KeptEpoch)) (cells : List Cell) → n ≡ width_at job number
    → cells ≡ added (replicate n no_cell) (kept_in number m (first_image (covering job number m keeps)))
    → cells ≡ merged_cells job keeps number m
first-summed job number m n keeps cells wide is =
    is ∙ ap (λ (n : ℕ). added (replicate n no_cell) (kept_in number m (first_image (covering job number m keeps)))) wide

pub none-summed : (job : JobSizes) (number m n : ℕ) (keeps : List (List KeptEpoch)) (cells : List Cell) → n ≡ width_at job number
    → cells ≡ replicate n no_cell → first_image (covering job number m keeps) ≡ []
    → cells ≡ merged_cells job keeps number m
none-summed job number m n keeps cells wide is none =
    is ∙ ap (λ (n : ℕ). replicate n no_cell) wide
    ∙ ap (λ (kept : List KeptEpoch). added (replicate (width_at job number) no_cell) (kept_in number m kept)) (sym none)
