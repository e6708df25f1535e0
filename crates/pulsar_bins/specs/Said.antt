-- What the rows of a text of phases say together.
use Rattle.std.specs.Prelude.{ℕ, List, filter_map, fold, Option, Some, None}
use Rattle.delay_poly.specs.declared.entry.PolyEntry.{PolyEntry}
use Rattle.pulsar_bins.specs.declared.word.Word.{Word}
use Rattle.pulsar_bins.specs.declared.word.Word.TheVariants.{Count, Phase}
use Rattle.pulsar_bins.specs.declared.said.Said.{Said}
use Rattle.pulsar_bins.specs.Values.{count_in, phase_in}
use Rattle.pulsar_bins.specs.Words.{Row}

-- the number of bins that a row says, and the phase
abbrev pub count_by : Word → List (List ℕ) → Option ℕ
count_by Count fields = count_in fields
count_by Phase fields = None

abbrev pub phase_by : Word → List (List ℕ) → Option PolyEntry
phase_by Count fields = None
phase_by Phase fields = phase_in fields

-- what the last of some things is
abbrev pub last : {A : Type 0} → List A → Option A
last xs = fold (λ _ x. Some x) None xs

-- what rows say: the number of bins where a row says it, and the phases in the order of the rows
unfoldable pub said_by : List Row → Said
said_by rows = record {
  count = last (filter_map (λ (row : Row). count_by row.word row.fields) rows);
  phases = filter_map (λ (row : Row). phase_by row.word row.fields) rows;
}
