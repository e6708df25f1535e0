-- Cells that are added part by part.
use Rattle.std.proofs.Common.{◌≡◌, ◌∙◌, sym, ap, refl, Option, Some, None, ℕ, zero, suc, ◌+◌, ◌*◌, ◌≤◌, List, [], ◌∷◌, ◌++◌, length, take, drop, ◌⊎◌, inl, inr, arith, append_assoc, length-append, ◌-◌, ◌<◌, get_or}
use Rattle.std.proofs.lemmas.List.{append-nil, take_more}
use Rattle.dev_traits.specs.Told.{WhereTold}
use Rattle.corr_model.specs.declared.cell.Cell.{Cell}
use Rattle.piece_plan.specs.Epochs.{cell_count}
use Rattle.job_epochs.specs.Added.{add_cells, plus_wrapped}
use Rattle.checkpoint_journal.specs.Cells.{cell_from, cells_at}
use Rattle.checkpoint_journal.specs.declared.listed.KeptAt.{KeptAt}
use Rattle.checkpoint_journal.proofs.ReadCells.{cells_at-more}
use Rattle.shard_merge.specs.Adding.{added_in, added_part, cells_in}

add_cells-none : (xs : List Cell) → add_cells xs [] ≡ xs
add_cells-none [] = refl
add_cells-none (x ∷ xs) = refl

pub add_cells-start : (xs : List Cell) (image : List ℕ) (at : ℕ) → xs ≡ add_cells xs (cells_at image at 0)
add_cells-start xs image at = sym (add_cells-none xs)

-- as many as there are of the second list, from the front
add_cells-front : (xs b : List Cell) → length b ≤ length xs → add_cells (take (length b) xs) b ++ drop (length b) xs ≡ add_cells xs b
add_cells-front xs [] within = sym (add_cells-none xs)
add_cells-front [] (y ∷ b) within = absurd (omega (arith, within))
add_cells-front (x ∷ xs) (y ∷ b) within = ap (λ (cells : List Cell). plus_wrapped x y ∷ cells) (add_cells-front xs b (omega (arith, within)))

-- one part behind another
pub added_part-append : (xs a b : List Cell) → length a + length b ≤ length xs
    → added_part (add_cells xs a) (length a) (length b) b ≡ add_cells xs (a ++ b)
added_part-append xs [] b within =
    ap (λ (s : List Cell). added_part s 0 (length b) b) (add_cells-none xs)
    ∙ ap (λ (n : ℕ). add_cells (take (length b) xs) b ++ drop n xs) (omega arith)
    ∙ add_cells-front xs b (omega (arith, within))
added_part-append [] (c ∷ a) b within = absurd (omega (arith, within))
added_part-append (x ∷ xs) (c ∷ a) b within =
    let next : suc (length a) + length b ≡ suc (length a + length b) = omega arith in
    ap (λ (n : ℕ). plus_wrapped x c ∷ (take (length a) (add_cells xs a) ++ (add_cells (take (length b) (drop (length a) (add_cells xs a))) b ++ drop n (plus_wrapped x c ∷ add_cells xs a)))) next
    ∙ ap (λ (cells : List Cell). plus_wrapped x c ∷ cells) (added_part-append xs a b (omega (arith, within)))

-- what stands past the end of the first list is not added
pub add_cells-past : (xs a b : List Cell) → length xs ≤ length a → add_cells xs (a ++ b) ≡ add_cells xs a
add_cells-past [] a b all = refl
add_cells-past (x ∷ xs) [] b all = absurd (omega (arith, all))
add_cells-past (x ∷ xs) (c ∷ a) b all = ap (λ (cells : List Cell). plus_wrapped x c ∷ cells) (add_cells-past xs a b (omega (arith, all)))

pub length-cells_at : (bytes : List ℕ) (at n : ℕ) → length (cells_at bytes at n) ≡ n
length-cells_at bytes at zero = refl
length-cells_at bytes at (suc n) =
    let next : suc n ≡ n + 1 = omega arith in
    ap (λ (k : ℕ). length (cells_at bytes at k)) next ∙ ap length (cells_at-more bytes at n)
    ∙ length-append (cells_at bytes at n) (cell_from bytes (at + 24 * n) ∷ []) ∙ (let ih = length-cells_at bytes at n in omega (arith, ih))

pub cells_at-append : (bytes : List ℕ) (at n more : ℕ) → cells_at bytes at (n + more) ≡ cells_at bytes at n ++ cells_at bytes (at + 24 * n) more
cells_at-append bytes at n zero = ap (cells_at bytes at) (omega arith) ∙ sym (append-nil (cells_at bytes at n))
cells_at-append bytes at n (suc more) =
    let next : n + suc more ≡ (n + more) + 1 = omega arith in
    let place : at + 24 * (n + more) ≡ (at + 24 * n) + 24 * more = omega arith in
    let last : suc more ≡ more + 1 = omega arith in
    ap (cells_at bytes at) next ∙ cells_at-more bytes at (n + more)
    ∙ ap (λ (cells : List Cell). cells ++ cell_from bytes (at + 24 * (n + more)) ∷ []) (cells_at-append bytes at n more)
    ∙ ap (λ (k : ℕ). (cells_at bytes at n ++ cells_at bytes (at + 24 * n) more) ++ cell_from bytes k ∷ []) place
    ∙ append_assoc (cells_at bytes at n) (cells_at bytes (at + 24 * n) more) (cell_from bytes ((at + 24 * n) + 24 * more) ∷ [])
    ∙ ap (λ (cells : List Cell). cells_at bytes at n ++ cells) (sym (cells_at-more bytes (at + 24 * n) more))
    ∙ ap (λ (k : ℕ). cells_at bytes at n ++ cells_at bytes (at + 24 * n) k) (sym last)

-- a part of an epoch's cells behind those before it
pub added_part-cells : (image : List ℕ) (at done more : ℕ) (xs s : List Cell) → s ≡ add_cells xs (cells_at image at done) → done + more ≤ length xs
    → added_part s done more (cells_at image (at + 24 * done) more) ≡ add_cells xs (cells_at image at (done + more))
added_part-cells image at done more xs s is within =
    let a = cells_at image at done in
    let b = cells_at image (at + 24 * done) more in
    ap (λ (t : List Cell). added_part t done more b) is
    ∙ ap (λ (k : ℕ). added_part (add_cells xs a) k more b) (sym (length-cells_at image at done))
    ∙ ap (λ (k : ℕ). added_part (add_cells xs a) (length a) k b) (sym (length-cells_at image (at + 24 * done) more))
    ∙ added_part-append xs a b (omega (arith, within, length-cells_at image at done, length-cells_at image (at + 24 * done) more))
    ∙ ap (add_cells xs) (sym (cells_at-append image at done more))

-- the cells of an epoch up to the sums' end are as good as all of them
pub add_cells-all_places : (image : List ℕ) (at count all : ℕ) (xs : List Cell) → count ≤ all → length xs ≤ count
    → add_cells xs (cells_at image at count) ≡ add_cells xs (cells_at image at all)
add_cells-all_places image at count all xs within enough =
    let rest : (m : ℕ) × (all ≡ count + m) = (all - count, omega (arith, within)) in
    sym (ap (λ (k : ℕ). add_cells xs (cells_at image at k)) rest.1 ∙ ap (add_cells xs) (cells_at-append image at count rest.0)
    ∙ add_cells-past xs (cells_at image at count) (cells_at image (at + 24 * count) rest.0) (omega (arith, enough, length-cells_at image at count)))

-- one epoch behind others
pub added_in-append : (image : List ℕ) (sum : List Cell) (kept : List KeptAt) (a : KeptAt)
    → added_in image sum (kept ++ a ∷ []) ≡ add_cells (added_in image sum kept) (cells_in image a)
added_in-append image sum [] a = refl
added_in-append image sum (k ∷ kept) a = added_in-append image (add_cells sum (cells_in image k)) kept a

pub told_sums : (seen : Option (List ℕ)) (done more : ℕ) (a : KeptAt) (xs s t : List Cell) → done + more ≤ length xs
    → WhereTold seen (λ image. s ≡ add_cells xs (cells_at image a.at done))
    → WhereTold seen (λ image. t ≡ added_part s done more (cells_at image (a.at + 24 * done) more))
    → WhereTold seen (λ image. t ≡ add_cells xs (cells_at image a.at (done + more)))
told_sums None done more a xs s t within before now = tt
told_sums (Some image) done more a xs s t within before now = now ∙ added_part-cells image a.at done more xs s before within

-- all cells of an epoch, or those up to the sums' end
pub add_cells-whole : (image : List ℕ) (a : KeptAt) (xs : List Cell) (done : ℕ) → done ≤ cell_count a.epoch → (done ≡ cell_count a.epoch) ⊎ (length xs ≤ done)
    → add_cells xs (cells_at image a.at done) ≡ add_cells xs (cells_in image a)
add_cells-whole image a xs done within (inl all) = ap (λ (n : ℕ). add_cells xs (cells_at image a.at n)) all
add_cells-whole image a xs done within (inr enough) = add_cells-all_places image a.at done (cell_count a.epoch) xs within enough

pub told_always : (seen : Option (List ℕ)) (P : List ℕ → Type 0) → ((image : List ℕ) → P image) → WhereTold seen P
told_always None P is = tt
told_always (Some image) P is = is image

pub told_added : (seen : Option (List ℕ)) (kept : List KeptAt) (i : ℕ) (d : KeptAt) (xs s t : List Cell) → i < length kept
    → WhereTold seen (λ image. s ≡ added_in image xs (take i kept))
    → WhereTold seen (λ image. t ≡ add_cells s (cells_in image (get_or kept i d)))
    → WhereTold seen (λ image. t ≡ added_in image xs (take (i + 1) kept))
told_added None kept i d xs s t within before now = tt
told_added (Some image) kept i d xs s t within before now =
    now ∙ ap (λ (cells : List Cell). add_cells cells (cells_in image (get_or kept i d))) before
    ∙ sym (added_in-append image xs (take i kept) (get_or kept i d)) ∙ ap (added_in image xs) (sym (take_more kept i d within))
