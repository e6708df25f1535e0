-- The lines that a text of phases may have: the word that begins each, and how the fields behind it are written.
use Rattle.std.specs.Prelude.{ℕ, List, [], ◌∷◌, codes, bytes_eq, Option, Some, None, if◌then◌else◌}
use Rattle.job_lines.specs.declared.word.FieldKind.{FieldKind}
use Rattle.job_lines.specs.declared.word.FieldKind.TheVariants.{Number, Time}
use Rattle.job_lines.specs.Rows.{RowBy, row_by, fields_of}
use Rattle.pulsar_bins.specs.declared.word.Word.{Word}
use Rattle.pulsar_bins.specs.declared.word.Word.TheVariants.{Count, Phase}

-- the word that a field spells
abbrev pub word_of : List ℕ → Option Word
word_of field =
    if bytes_eq field (codes "bins") then Some Count
    else if bytes_eq field (codes "phase") then Some Phase else None

-- the fields behind a word: the number of bins; a time and the first coefficient
abbrev pub needed : Word → List FieldKind
needed Count = Number ∷ []
needed Phase = Time ∷ Number ∷ []

-- the fields that may stand behind those, from the first on: the further coefficients
abbrev pub further : Word → List FieldKind
further Count = []
further Phase = Number ∷ Number ∷ Number ∷ Number ∷ Number ∷ []

-- a line by its word, and the fields behind it
abbrev pub Row : Type 0
Row = RowBy Word

-- the row of a line, none where it has no field or begins with no word
abbrev pub row_of : List ℕ → Option Row
row_of line = row_by word_of (fields_of line)
