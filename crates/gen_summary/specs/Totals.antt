-- What the cells of a record file add up to.
use Rattle.std.specs.Prelude.{ℕ, ℤ, pos, ◌+ℤ◌, List, [], ◌∷◌, ◌++◌, length, codes, decimal, sum_by}
use Rattle.std.specs.Fmt.{signed_decimal}
use Rattle.corr_model.specs.declared.cell.Cell.{Cell}
use Rattle.corr_model.specs.Records.{places_of}
use Rattle.vis_records.specs.Content.{Content}

-- the sum of a number of each cell
abbrev pub total : (Cell → ℤ) → List Cell → ℤ
total f [] = pos 0
total f (c ∷ cells) = f c +ℤ total f cells

-- a line of a word and a number
abbrev pub line : List ℕ → List ℕ → List ℕ
line word number = word ++ codes " " ++ number ++ 10 ∷ []

-- the lines on a record file with this content, so many bytes long
unfoldable pub totals_text : Content → ℕ → List ℕ
totals_text content bytes =
    line (codes "records") (decimal (length (places_of content.head)))
    ++ line (codes "bytes") (decimal bytes)
    ++ line (codes "pairs") (decimal (sum_by (λ c. c.count) content.cells))
    ++ line (codes "re") (signed_decimal (total (λ c. c.re) content.cells))
    ++ line (codes "im") (signed_decimal (total (λ c. c.im) content.cells))
