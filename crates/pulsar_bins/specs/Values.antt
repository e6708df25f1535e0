-- What the fields behind a word say, none where they say nothing that is in its range.
use Rattle.std.specs.Prelude.{ℕ, List, drop, Option}
use Rattle.delay_poly.specs.declared.entry.PolyEntry.{PolyEntry}
use Rattle.job_lines.specs.Values.{field, number_within, poly_from}

-- the number of bins in a turn, from 2 to 64
unfoldable pub count_in : List (List ℕ) → Option ℕ
count_in fields = number_within 2 64 (field fields 0)

-- the phase from a second on
unfoldable pub phase_in : List (List ℕ) → Option PolyEntry
phase_in fields = poly_from (field fields 0) (drop 1 fields)
