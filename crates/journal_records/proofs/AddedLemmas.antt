-- What kept epochs add up to.
use Rattle.std.specs.Prelude.{slice_get, if◌then◌else◌, Bool, true, false}
use Rattle.std.proofs.Common.{◌≡◌, ◌∙◌, ap, refl, ℕ, zero, suc, ◌+◌, List, [], ◌∷◌, ◌++◌, length, take, map, Some, arith}
use Rattle.corr_model.specs.declared.cell.Cell.{Cell}
use Rattle.piece_plan.specs.declared.epoch.EpochPlan.{EpochPlan}
use Rattle.job_epochs.specs.Added.{add_cells, is_of}
use Rattle.job_epochs.proofs.PlacedCells.{length-add_cells}
use Rattle.checkpoint_journal.specs.Cells.{body_cells}
use Rattle.journal_image.specs.Image.{KeptEpoch}
use Rattle.journal_records.specs.Kept.{added_kept}
use Rattle.journal_records.proofs.OrderLemmas.{AreOther}

abbrev pub epochs_kept : List KeptEpoch → List EpochPlan
epochs_kept kept = map (λ (k : KeptEpoch). k.epoch) kept

added_kept-append : (number m : ℕ) (sum : List Cell) (xs ys : List KeptEpoch)
    → added_kept number m sum (xs ++ ys) ≡ added_kept number m (added_kept number m sum xs) ys
added_kept-append number m sum [] ys = refl
added_kept-append number m sum (k ∷ xs) ys =
    added_kept-append number m (if is_of number m k.epoch then add_cells sum (body_cells k.body) else sum) xs ys

-- epochs of another integration add nothing
pub added_kept-other : (number m : ℕ) (sum : List Cell) (xs : List KeptEpoch) → AreOther number m (epochs_kept xs)
    → added_kept number m sum xs ≡ sum
added_kept-other number m sum [] other = refl
added_kept-other number m sum (k ∷ xs) other =
    ap (λ (b : Bool). added_kept number m (if b then add_cells sum (body_cells k.body) else sum) xs) other.0
    ∙ added_kept-other number m sum xs other.1

pub added_kept-behind : (number m : ℕ) (sum : List Cell) (xs ys : List KeptEpoch) → AreOther number m (epochs_kept ys)
    → added_kept number m sum (xs ++ ys) ≡ added_kept number m sum xs
added_kept-behind number m sum xs ys other =
    added_kept-append number m sum xs ys ∙ added_kept-other number m (added_kept number m sum xs) ys other

take-next : {A : Type 0} (xs : List A) (n : ℕ) (x : A) → slice_get xs n ≡ Some x → take (n + 1) xs ≡ take n xs ++ x ∷ []
take-next [] n x at = absurd (cc)
take-next (y ∷ xs) zero x at =
    let same : y ≡ x = cc in
    ap (λ z. z ∷ []) same
take-next (y ∷ xs) (suc n) x at =
    let next : suc n + 1 ≡ suc (n + 1) = omega arith in
    ap (λ k. take k (y ∷ xs)) next ∙ ap (λ zs. y ∷ zs) (take-next xs n x at)

-- one epoch of the integration more
pub added_kept-next : (number m : ℕ) (sum : List Cell) (kept : List KeptEpoch) (n : ℕ) (k : KeptEpoch) → slice_get kept n ≡ Some k
    → is_of number m k.epoch ≡ true
    → added_kept number m sum (take (n + 1) kept) ≡ add_cells (added_kept number m sum (take n kept)) (body_cells k.body)
added_kept-next number m sum kept n k at here =
    let before : List Cell = added_kept number m sum (take n kept) in
    ap (added_kept number m sum) (take-next kept n k at)
    ∙ added_kept-append number m sum (take n kept) (k ∷ [])
    ∙ ap (λ (b : Bool). if b then add_cells before (body_cells k.body) else before) here

-- ---- cells place by place

pub length-added_kept : (number m : ℕ) (sum : List Cell) (kept : List KeptEpoch) → length (added_kept number m sum kept) ≡ length sum
length-added_kept number m sum [] = refl
length-added_kept number m sum (k ∷ kept) =
    length-added_kept number m (if is_of number m k.epoch then add_cells sum (body_cells k.body) else sum) kept ∙ chosen (is_of number m k.epoch)
  where
    chosen : (b : Bool) → length (if b then add_cells sum (body_cells k.body) else sum) ≡ length sum
    chosen true = length-add_cells sum (body_cells k.body)
    chosen false = refl
