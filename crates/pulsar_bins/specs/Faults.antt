-- The faults of the lines of a text of phases, each by the lines before it.
use Rattle.std.specs.Prelude.{ℕ, Bool, false, not, if◌then◌else◌, is_some, is_none, List, [], ◌∷◌, Option, Some, None, ℤ}
use Rattle.std.specs.Option.{option_map_or}
use Rattle.std.specs.List.{list_any}
use Rattle.std.specs.Ordering.{int_eq}
use Rattle.delay_poly.specs.declared.entry.PolyEntry.{PolyEntry}
use Rattle.job_lines.specs.Words.{are_written}
use Rattle.job_lines.specs.Rows.{is_clean, fields_of}
use Rattle.pulsar_bins.specs.declared.word.Word.{Word}
use Rattle.pulsar_bins.specs.declared.word.Word.TheVariants.{Count, Phase}
use Rattle.pulsar_bins.specs.declared.said.Said.{Said}
use Rattle.pulsar_bins.specs.declared.fault.BinsKind.{BinsKind}
use Rattle.pulsar_bins.specs.declared.fault.BinsKind.TheVariants.{Line, Double, Range}
use Rattle.job_lines.specs.Values.{field, second_of}
use Rattle.pulsar_bins.specs.Values.{count_in, phase_in}
use Rattle.pulsar_bins.specs.Words.{word_of, needed, further}

-- a phase begins at this second; a time that names no second is not among them
abbrev pub is_taken : Option ℤ → List PolyEntry → Bool
is_taken second phases = option_map_or (λ t. list_any (λ (e : PolyEntry). int_eq e.second t) phases) second false

-- a line says again what stands already, or else what is in no range
abbrev pub double_or_range : {A : Type 0} → Bool → Option A → Option BinsKind
double_or_range again value = if again then Some Double else if is_none value then Some Range else None

-- the fault of a row behind rows that say so much, by its word
unfoldable pub row_fault : Said → Word → List (List ℕ) → Option BinsKind
row_fault said Count fields = double_or_range (is_some said.count) (count_in fields)
row_fault said Phase fields = double_or_range (is_taken (second_of (field fields 0)) said.phases) (phase_in fields)

-- the fault of fields behind a word: first that they are not written as it asks
unfoldable pub word_fault : Said → Word → List (List ℕ) → Option BinsKind
word_fault said word fields =
    if not (are_written (needed word) (further word) fields) then Some Line else row_fault said word fields

-- the fault of a line's fields, of which the first is to be a word
unfoldable pub fields_fault : Said → List (List ℕ) → Option BinsKind
fields_fault said [] = None
fields_fault said (first ∷ fields) = option_map_or (λ word. word_fault said word fields) (word_of first) (Some Line)

-- the fault of a line behind rows that say so much
unfoldable pub line_fault : Said → List ℕ → Option BinsKind
line_fault said line = if not (is_clean line) then Some Line else fields_fault said (fields_of line)
