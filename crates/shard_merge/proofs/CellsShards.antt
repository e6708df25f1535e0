-- The cells of a shard's epochs are those that stand at their places.
use Rattle.std.specs.Prelude.{OnOk}
use Rattle.std.specs.List.{AllZip}
use Rattle.std.proofs.Common.{◌≡◌, ◌∙◌, refl, ap, subst, ℕ, ◌^◌, ◌<◌, Bool, ◌&&◌, nat_lt, if◌then◌else◌, Option, Some, None, Result, Ok, Err, List, [], ◌∷◌, length, arith}
use Rattle.std.proofs.lemmas.Bool.{eq-eqb, lt-ltb}
use Rattle.dev_traits.specs.Told.{WhereTold}
use Rattle.corr_model.specs.Files.{Files}
use Rattle.corr_model.specs.declared.cell.Cell.{Cell}
use Rattle.piece_plan.specs.declared.epoch.EpochPlan.{EpochPlan}
use Rattle.piece_plan.specs.Epochs.{JobSizes, cell_count}
use Rattle.job_epochs.specs.Added.{add_cells}
use Rattle.journal_image.specs.Image.{KeptEpoch}
use Rattle.checkpoint_journal.specs.Cells.{cells_at, body_cells}
use Rattle.checkpoint_journal.specs.Listed.{IsKeptAt}
use Rattle.checkpoint_journal.specs.declared.listed.KeptAt.{KeptAt}
use Rattle.shelf_file.specs.Seen.{of_length, seen_under}
use Rattle.shard_merge.specs.declared.shard.Shard.{Shard}
use Rattle.shard_merge.specs.Adding.{cells_in, added_in}
use Rattle.shard_merge.specs.Covers.{added, kept_in}
use Rattle.shard_merge.specs.Reading.{IsReadFrom}
use Rattle.shard_merge.proofs.CoverageLists.{listed_in, kept_in-listed_in}

cells_in-body_cells : (image : List ℕ) (k : KeptEpoch) (a : KeptAt) → IsKeptAt image k a → cells_in image a ≡ body_cells k.body
cells_in-body_cells image k a at = ap (λ (e : EpochPlan). cells_at image a.at (cell_count e)) at.epoch ∙ at.cells

added_in-added : (image : List ℕ) (sum : List Cell) (kept : List KeptEpoch) (listed : List KeptAt) → AllZip (IsKeptAt image) kept listed
    → added_in image sum listed ≡ added sum kept
added_in-added image sum [] [] all = refl
added_in-added image sum [] (a ∷ listed) all = absurd all
added_in-added image sum (k ∷ kept) [] all = absurd all
added_in-added image sum (k ∷ kept) (a ∷ listed) all =
    ap (λ (cells : List Cell). added_in image (add_cells sum cells) listed) (cells_in-body_cells image k a all.0)
    ∙ added_in-added image (add_cells sum (body_cells k.body)) kept listed all.1

-- a file that is there and has this length is seen
of_length-there : (size : ℕ) (image : List ℕ) → length image ≡ size → size < 2 ^ 63 → of_length size (Some image) ≡ Some image
of_length-there size image long short =
    ap (λ (b : Bool). if b && nat_lt (length image) (2 ^ 63) then Some image else None) (eq-eqb (length image) size long)
    ∙ ap (λ (b : Bool). if b then Some image else None) (lt-ltb (length image) (2 ^ 63) (omega (arith, long, short)))

-- what was added is what the shard's epochs of the integration add up to, where the shelf tells its files
pub sums-told : (told : Option Files) (job : JobSizes) (s : Shard) (number m : ℕ) (zeros sums : List Cell) (listed : List KeptAt) → s.size < 2 ^ 63
    → ((files : Files) (id : List ℕ) (kept : List KeptEpoch) → IsReadFrom files id job s kept → listed ≡ listed_in number m s.kept.items)
    → WhereTold (seen_under told s.name s.size) (λ image. sums ≡ added_in image zeros listed)
    → WhereTold told (λ files. (id : List ℕ) (kept : List KeptEpoch) → IsReadFrom files id job s kept → sums ≡ added zeros (kept_in number m kept))
sums-told None job s number m zeros sums listed short are is = tt
sums-told (Some files) job s number m zeros sums listed short are is = λ id kept read.
    let image = read.image in
    let seen : of_length s.size (files s.name) ≡ Some image = ap (of_length s.size) read.there ∙ of_length-there s.size image read.size short in
    let Told : Option (List ℕ) → Type 0 = λ o. WhereTold o (λ v. sums ≡ added_in v zeros listed) in
    let here : sums ≡ added_in image zeros listed = subst Told seen is in
    here ∙ ap (added_in image zeros) (are files id kept read)
    ∙ added_in-added image zeros (kept_in number m kept) (listed_in number m s.kept.items) (kept_in-listed_in image number m kept s.kept.items read.places)

pub OnOk-follows : {T E : Type 0} (r : Result T E) (P Q : Type 0) → (P → Q) → OnOk r P → OnOk r Q
OnOk-follows (Ok x) P Q follows p = follows p
OnOk-follows (Err e) P Q follows p = p
