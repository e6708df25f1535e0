-- The lines of a job's text, and the fields of each.
use Rattle.std.specs.Prelude.{ℕ, ◌==◌, Bool, ◌&&◌, ◌||◌, nat_le, nat_lt, List, [], ◌∷◌, length, filter, Option, None, option_map, slice_index_or}
use Rattle.std.specs.List.{list_all, before_first, slice_split}
use Rattle.job_lines.specs.declared.word.Word.{Word}
use Rattle.job_lines.specs.Words.{word_of, are_one}

-- a number sign, 35, begins a comment that goes on to the line's end
abbrev pub uncommented : List ℕ → List ℕ
uncommented line = before_first (λ b. b == 35) line

-- a tab, a space, or a visible byte of ASCII
abbrev pub is_allowed : ℕ → Bool
is_allowed b = (b == 9) || (nat_le 32 b && nat_le b 126)

-- outside its comment a line has no other bytes
abbrev pub is_clean : List ℕ → Bool
is_clean line = list_all is_allowed (uncommented line)

-- tabs and spaces part the fields
abbrev pub is_blank : ℕ → Bool
is_blank b = (b == 9) || (b == 32)

abbrev pub fields_of : List ℕ → List (List ℕ)
fields_of line = filter (λ field. nat_lt 0 (length field)) (slice_split is_blank (uncommented line))

-- a line by its word, and the fields behind it
pub record RowBy (W : Type 0) : Type 0 where
  pub word : W
  pub fields : List (List ℕ)

-- the row of some fields, none where there is no field or the first spells no word
abbrev pub row_by : {W : Type 0} → (List ℕ → Option W) → List (List ℕ) → Option (RowBy W)
row_by spelt [] = None
row_by spelt (first ∷ fields) = option_map (λ word. record { word = word; fields = fields }) (spelt first)

-- a row of a job
abbrev pub Row : Type 0
Row = RowBy Word

abbrev pub row_from : List (List ℕ) → Option Row
row_from fields = row_by word_of fields

-- the row of a line, none where it has no field or begins with no word of a job
abbrev pub row_of : List ℕ → Option Row
row_of line = row_from (fields_of line)

-- a field by its place behind the word, counted from 0
abbrev pub field_at : Row → ℕ → List ℕ
field_at row i = slice_index_or row.fields i []

-- the rows of a word
abbrev pub rows_with : Word → List Row → List Row
rows_with word rows = filter (λ row. are_one row.word word) rows
