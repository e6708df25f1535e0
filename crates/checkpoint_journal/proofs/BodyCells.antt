-- A body stands for the cells that are its text.
use Rattle.std.specs.Prelude.{slice_get}
use Rattle.std.specs.Int.{cast_signed, cast_unsigned}
use Rattle.std.proofs.Common.{◌≡◌, ◌∙◌, ap, ℕ, zero, suc, ◌+◌, ◌*◌, ◌/◌, ◌^◌, ◌<◌, ℤ, FitsSigned, w64, List, [], ◌∷◌, ◌++◌, length, get_or, Some, append_assoc, length-append, arith}
use Rattle.std.proofs.Math.Facts.{Fits-of_z}
use Rattle.std.proofs.lemmas.Int.{to_z-of_z}
use Rattle.std.proofs.lemmas.List.{get_or-append-add, same_lists}
use Rattle.std.proofs.lemmas.List.FromFn.{length-map-range_with_len, get_or-map-range_with_len}
use Rattle.std.proofs.lemmas.Option.{slice_get-get_or}
use Rattle.byteorder.specs.Endian.{little_bytes, little_from}
use Rattle.byteorder.specs.Numbers.{little_number-reads_back, length-bytes_low_first}
use Rattle.corr_model.specs.declared.cell.Cell.{Cell}
use Rattle.corr_model.specs.Records.{IsCell, cell_text}
use Rattle.corr_model.proofs.CellLemmas.{same_cell}
use Rattle.checkpoint_journal.specs.Cells.{body_text, cell_from, cells_at, body_cells}
use Rattle.journal_image.proofs.Numbers.{little_from-places}
use Rattle.checkpoint_journal.proofs.ReadCells.{cell_from-same}
use Rattle.checkpoint_journal.proofs.TextLemmas.{length-body_text}

-- a number behind other bytes
number-behind : (front rest : List ℕ) (n at : ℕ) → at ≡ length front → little_from at n (front ++ rest) ≡ little_from 0 n rest
number-behind front rest n at is =
    little_from-places n at 0 (front ++ rest) rest
    (λ k below.
    let place : at + k ≡ length front + k = omega (arith, is) in
    let here : k ≡ 0 + k = omega arith in
    ap (λ (j : ℕ). get_or (front ++ rest) j 0) place ∙ get_or-append-add front rest k 0 ∙ ap (λ (j : ℕ). get_or rest j 0) here)

-- a signed number that is read back
signed-back : (z : ℤ) (rest : List ℕ) → FitsSigned w64 z
    → cast_signed w64 (little_from 0 8 (little_bytes 8 (cast_unsigned w64 z) ++ rest)) ≡ z
signed-back z rest fits =
    let small : cast_unsigned w64 z < 256 ^ 8 = omega (arith, Fits-of_z fits) in
    ap (cast_signed w64) (little_number-reads_back 8 (cast_unsigned w64 z) rest small) ∙ to_z-of_z w64 z fits

-- the cell at the front of a text
cell-front : (c : Cell) (rest : List ℕ) → IsCell c → cell_from (cell_text c ++ rest) 0 ≡ c
cell-front c rest is =
    let re : List ℕ = little_bytes 8 (cast_unsigned w64 c.re) in
    let im : List ℕ = little_bytes 8 (cast_unsigned w64 c.im) in
    let count : List ℕ = little_bytes 8 c.count in
    let few : c.count < 256 ^ 8 = omega (arith, is.count) in
    let re_long : length (little_bytes 8 (cast_unsigned w64 c.re)) ≡ 8 = length-bytes_low_first 0 8 (cast_unsigned w64 c.re) in
    let im_long : length (little_bytes 8 (cast_unsigned w64 c.im)) ≡ 8 = length-bytes_low_first 0 8 (cast_unsigned w64 c.im) in
    let first : ((re ++ im) ++ count) ++ rest ≡ re ++ (im ++ (count ++ rest)) = simp append_assoc in
    let third : ((re ++ im) ++ count) ++ rest ≡ (re ++ im) ++ (count ++ rest) = simp append_assoc in
    same_cell _ c.re _ c.im _ c.count
    (ap (λ (t : List ℕ). cast_signed w64 (little_from 0 8 t)) first ∙ signed-back c.re (im ++ (count ++ rest)) is.re)
    (ap (λ (t : List ℕ). cast_signed w64 (little_from (0 + 8) 8 t)) first
    ∙ ap (cast_signed w64) (number-behind re (im ++ (count ++ rest)) 8 (0 + 8) (omega (arith, re_long)))
    ∙ signed-back c.im (count ++ rest) is.im)
    (ap (little_from (0 + 16) 8) third
    ∙ number-behind (re ++ im) (count ++ rest) 8 (0 + 16) (omega (arith, length-append re im, re_long, im_long))
    ∙ little_number-reads_back 8 c.count rest few)

length-cell_text : (c : Cell) → length (cell_text c) ≡ 24
length-cell_text c =
    let re : List ℕ = little_bytes 8 (cast_unsigned w64 c.re) in
    let im : List ℕ = little_bytes 8 (cast_unsigned w64 c.im) in
    omega (
      arith,
      length-append re im,
      length-append (re ++ im) (little_bytes 8 c.count),
      length-bytes_low_first 0 8 (cast_unsigned w64 c.re),
      length-bytes_low_first 0 8 (cast_unsigned w64 c.im),
      length-bytes_low_first 0 8 c.count,
    )

-- the k-th cell of a body
cell_from-body_text : (cells : List Cell) (k : ℕ) (c : Cell) → slice_get cells k ≡ Some c → IsCell c
    → cell_from (body_text cells) (24 * k) ≡ c
cell_from-body_text [] k c there is = absurd (cc)
cell_from-body_text (d ∷ cells) zero c there is =
    let same : d ≡ c = cc in
    let start : 24 * 0 ≡ 0 = omega arith in
    ap (cell_from (cell_text d ++ body_text cells)) start
    ∙ ap (λ (e : Cell). cell_from (cell_text e ++ body_text cells) 0) same
    ∙ cell-front c (body_text cells) is
cell_from-body_text (d ∷ cells) (suc k) c there is =
    cell_from-same (cell_text d ++ body_text cells) (body_text cells) (24 * suc k) (24 * k)
    (λ j below.
    let place : 24 * suc k + j ≡ length (cell_text d) + (24 * k + j) = omega (arith, length-cell_text d) in
    ap (λ (n : ℕ). get_or (cell_text d ++ body_text cells) n 0) place
    ∙ get_or-append-add (cell_text d) (body_text cells) (24 * k + j) 0)
    ∙ cell_from-body_text cells k c there is

-- the cells are read back
pub body_cells-body_text : (cells : List Cell) → ((k : ℕ) (c : Cell) → slice_get cells k ≡ Some c → IsCell c) → body_cells (body_text cells) ≡ cells
body_cells-body_text cells all =
    let at : ℕ → Cell = λ i. cell_from (body_text cells) (0 + 24 * i) in
    let count : length (body_text cells) / 24 ≡ length cells = omega (arith, length-body_text cells) in
    let many : length (cells_at (body_text cells) 0 (length cells)) ≡ length cells = length-map-range_with_len at 0 (length cells) in
    ap (cells_at (body_text cells) 0) count
    ∙ same_lists (cells_at (body_text cells) 0 (length cells)) cells many
    (λ k d below.
    let within : k < length cells = omega (arith, below, many) in
    let start : 0 + 24 * k ≡ 24 * k = omega arith in
    let there = slice_get-get_or cells k d within in
    get_or-map-range_with_len at 0 (length cells) k k d within (omega arith)
    ∙ ap (cell_from (body_text cells)) start
    ∙ cell_from-body_text cells k (get_or cells k d) there (all k (get_or cells k d) there))
