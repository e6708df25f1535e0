-- Cells that are read, one after another.
use Rattle.std.specs.Int.{w64, cast_signed}
use Rattle.std.proofs.Common.{◌≡◌, ◌∙◌, ℕ, ℤ, zero, suc, ◌+◌, ◌*◌, ◌<◌, List, [], ◌∷◌, ◌++◌, get_or, take, refl, sym, ap, arith}
use Rattle.std.proofs.lemmas.List.FromFn.{map-range_with_len_more}
use Rattle.byteorder.specs.Endian.{little_from}
use Rattle.corr_model.specs.declared.cell.Cell.{Cell}
use Rattle.checkpoint_journal.specs.Cells.{cell_from, cells_at}
use Rattle.journal_image.proofs.Numbers.{little_from-places}

abbrev made : ℤ → ℤ → ℕ → Cell
made re im count = record { re = re; im = im; count = count }

-- bytes that agree at the places of a cell give the same cell
pub cell_from-same : (xs ys : List ℕ) (a b : ℕ) → ((k : ℕ) → k < 24 → get_or xs (a + k) 0 ≡ get_or ys (b + k) 0) → cell_from xs a ≡ cell_from ys b
cell_from-same xs ys a b same =
    let one : little_from a 8 xs ≡ little_from b 8 ys = little_from-places 8 a b xs ys (λ k below. same k (omega arith)) in
    let two : little_from (a + 8) 8 xs ≡ little_from (b + 8) 8 ys = little_from-places 8 (a + 8) (b + 8) xs ys (λ k below. further 8 k (omega arith)) in
    let three : little_from (a + 16) 8 xs ≡ little_from (b + 16) 8 ys = little_from-places 8 (a + 16) (b + 16) xs ys (λ k below. further 16 k (omega arith)) in
    ap (λ (n : ℕ). made (cast_signed w64 n) (cast_signed w64 (little_from (a + 8) 8 xs)) (little_from (a + 16) 8 xs)) one
    ∙ ap (λ (n : ℕ). made (cast_signed w64 (little_from b 8 ys)) (cast_signed w64 n) (little_from (a + 16) 8 xs)) two
    ∙ ap (λ (n : ℕ). made (cast_signed w64 (little_from b 8 ys)) (cast_signed w64 (little_from (b + 8) 8 ys)) n) three
  where
    further : (m k : ℕ) → m + k < 24 → get_or xs (a + m + k) 0 ≡ get_or ys (b + m + k) 0
    further m k below =
        let left : a + m + k ≡ a + (m + k) = omega arith in
        let right : b + m + k ≡ b + (m + k) = omega arith in
        ap (λ (j : ℕ). get_or xs j 0) left ∙ same (m + k) below ∙ sym (ap (λ (j : ℕ). get_or ys j 0) right)

pub cells_at-more : (bytes : List ℕ) (at n : ℕ) → cells_at bytes at (n + 1) ≡ cells_at bytes at n ++ cell_from bytes (at + 24 * n) ∷ []
cells_at-more bytes at n = map-range_with_len_more (λ (i : ℕ). cell_from bytes (at + 24 * i)) 0 n n (omega arith)

-- and those of so many cells the same cells
pub cells_at-same : (xs ys : List ℕ) (a b n : ℕ) → ((k : ℕ) → k < 24 * n → get_or xs (a + k) 0 ≡ get_or ys (b + k) 0) → cells_at xs a n ≡ cells_at ys b n
cells_at-same xs ys a b zero same = refl
cells_at-same xs ys a b (suc n) same =
    let one_more : suc n ≡ n + 1 = omega arith in
    let front : cells_at xs a n ≡ cells_at ys b n = cells_at-same xs ys a b n (λ k below. same k (omega arith)) in
    let last : cell_from xs (a + 24 * n) ≡ cell_from ys (b + 24 * n) = cell_from-same xs ys (a + 24 * n) (b + 24 * n) (λ k below. further k below) in
    ap (cells_at xs a) one_more ∙ cells_at-more xs a n
    ∙ ap (λ (l : List Cell). l ++ cell_from xs (a + 24 * n) ∷ []) front
    ∙ ap (λ (c : Cell). cells_at ys b n ++ c ∷ []) last
    ∙ sym (cells_at-more ys b n) ∙ ap (cells_at ys b) (sym one_more)
  where
    further : (k : ℕ) → k < 24 → get_or xs (a + 24 * n + k) 0 ≡ get_or ys (b + 24 * n + k) 0
    further k below =
        let left : a + 24 * n + k ≡ a + (24 * n + k) = omega arith in
        let right : b + 24 * n + k ≡ b + (24 * n + k) = omega arith in
        ap (λ (j : ℕ). get_or xs j 0) left ∙ same (24 * n + k) (omega arith) ∙ sym (ap (λ (j : ℕ). get_or ys j 0) right)

-- one cell more, out of bytes that stand in an image
pub taken_more : (image buffer : List ℕ) (body first k count : ℕ) (old new : List Cell) → k < count
    → ((m : ℕ) → m < 24 * count → get_or buffer m 0 ≡ get_or image (body + 24 * first + m) 0)
    → take (first + k) old ≡ cells_at image body (first + k)
    → take (first + k + 1) new ≡ take (first + k) old ++ cell_from buffer (24 * k) ∷ []
    → take (first + (k + 1)) new ≡ cells_at image body (first + (k + 1))
taken_more image buffer body first k count old new inside same before step =
    let place : first + (k + 1) ≡ first + k + 1 = omega arith in
    let cell : cell_from buffer (24 * k) ≡ cell_from image (body + 24 * (first + k)) = cell_from-same buffer image (24 * k) (body + 24 * (first + k)) (λ m below. byte m below) in
    ap (λ (n : ℕ). take n new) place ∙ step
    ∙ ap (λ (l : List Cell). l ++ cell_from buffer (24 * k) ∷ []) before
    ∙ ap (λ (c : Cell). cells_at image body (first + k) ++ c ∷ []) cell
    ∙ sym (cells_at-more image body (first + k)) ∙ ap (cells_at image body) (sym place)
  where
    byte : (m : ℕ) → m < 24 → get_or buffer (24 * k + m) 0 ≡ get_or image (body + 24 * (first + k) + m) 0
    byte m below =
        let there : body + 24 * first + (24 * k + m) ≡ body + 24 * (first + k) + m = omega arith in
        same (24 * k + m) (omega arith) ∙ ap (λ (j : ℕ). get_or image j 0) there
