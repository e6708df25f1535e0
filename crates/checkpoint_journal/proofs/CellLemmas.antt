-- Cells and their bytes.
use Rattle.std.proofs.Common.{◌≡◌, ◌∙◌, ℕ, ℤ, ◌+◌, ◌-◌, List, length, take, drop, refl, ap}
use Rattle.std.specs.Int.{w64, cast_signed}
use Rattle.byteorder.specs.Endian.{little_number}
use Rattle.checkpoint_journal.specs.Cells.{cell_from}
use Rattle.checkpoint_journal.proofs.NumberLemmas.{little_from-drop}

-- three numbers of what stands from a place on
pub cell_from-parts : (xs : List ℕ) (a : ℕ) (re im : ℤ) (count : ℕ)
    → re ≡ cast_signed w64 (little_number 8 (take (length xs - a) (drop a xs)))
    → im ≡ cast_signed w64 (little_number 8 (take (length xs - (a + 8)) (drop (a + 8) xs)))
    → count ≡ little_number 8 (take (length xs - (a + 16)) (drop (a + 16) xs))
    → record { re = re; im = im; count = count } ≡ cell_from xs a
cell_from-parts xs a re im count first second third =
    let one = first ∙ ap (cast_signed w64) (little_from-drop 8 a xs) in
    let two = second ∙ ap (cast_signed w64) (little_from-drop 8 (a + 8) xs) in
    let three = third ∙ little_from-drop 8 (a + 16) xs in
    rw (one, two, three) refl
