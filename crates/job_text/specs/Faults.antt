-- The faults of a job's lines, each by the lines before it.
use Rattle.std.specs.Prelude.{ℕ, ◌^◌, Bool, false, not, ◌&&◌, if◌then◌else◌, is_some, is_none, List, [], ◌∷◌, find, bytes_eq, Option, Some, None, ℤ}
use Rattle.std.specs.Option.{option_map_or}
use Rattle.std.specs.List.{list_any}
use Rattle.std.specs.Ordering.{int_eq}
use Rattle.named_list.specs.Named.{named}
use Rattle.job_lines.specs.Words.{word_of, is_inline, needed, further, are_written}
use Rattle.job_lines.specs.Rows.{is_clean, fields_of}
use Rattle.job_lines.specs.declared.word.Word.{Word}
use Rattle.job_lines.specs.declared.word.Word.TheVariants.{Lags, Integration, Epoch, Knot, Auto, Station, File, Chan, Clock, Poly, Product, Take, Rate, Scan, Band}
use Rattle.job_text.specs.declared.part.Part.{Part}
use Rattle.job_text.specs.declared.part.Part.TheVariants.{File as FilePart, Chan as ChanPart, Clock as ClockPart, Poly as PolyPart}
use Rattle.job_text.specs.declared.fault.JobKind.{JobKind}
use Rattle.job_text.specs.declared.fault.JobKind.TheVariants.{Line, Double, Unknown, Range}
use Rattle.job_text.specs.Job.{StationFields}
use Rattle.job_text.specs.Values.{field, second_of, lags_in, integration_in, epoch_in, knot_in, station_in, chan_in, clock_in, poly_in, rate_in, scan_in, band_in}
use Rattle.job_text.specs.Said.{Said}

-- the station of a key
abbrev pub station_with : List StationFields → List ℕ → Option StationFields
station_with stations key = find (λ s. bytes_eq s.key key) stations

-- some station has a channel of this name
abbrev pub has_channel : List StationFields → List ℕ → Bool
has_channel stations name = list_any (λ s. is_some (named s.chans name)) stations

-- a second is among those of some entries; a time that names no second is not
abbrev pub is_taken : {E : Type 0} → (E → ℤ) → Option ℤ → List E → Bool
is_taken second_of_entry second entries = option_map_or (λ t. list_any (λ e. int_eq (second_of_entry e) t) entries) second false

-- a name, or two of them, that stand among some already
abbrev pub is_among : List ℕ → List (List ℕ) → Bool
is_among name names = list_any (λ other. bytes_eq other name) names

abbrev pub is_pair_among : List ℕ → List ℕ → List (List ℕ × List ℕ) → Bool
is_pair_among x y pairs = list_any (λ p. bytes_eq x p.0 && bytes_eq y p.1) pairs

-- a line says again what stands already, or else what is in no range
abbrev pub double_or_range : {A : Type 0} → Bool → Option A → Option JobKind
double_or_range again value = if again then Some Double else if is_none value then Some Range else None

-- the faults of lines behind a station's others
unfoldable pub chan_fault : List (List ℕ) → StationFields → Option JobKind
chan_fault fields s = double_or_range (is_some (named s.chans (field fields 1))) (chan_in (2 ^ s.chans_log2) fields)

unfoldable pub clock_fault : List (List ℕ) → StationFields → Option JobKind
clock_fault fields s = double_or_range (is_taken (λ e. e.second) (second_of (field fields 1)) s.clocks) (clock_in fields)

unfoldable pub poly_fault : List (List ℕ) → StationFields → Option JobKind
poly_fault fields s = double_or_range (is_taken (λ e. e.second) (second_of (field fields 1)) s.polys) (poly_in fields)

-- the fault of a line behind a station's others, by what it states
abbrev pub part_fault : Part → List (List ℕ) → StationFields → Option JobKind
part_fault FilePart fields = λ s. None
part_fault ChanPart fields = chan_fault fields
part_fault ClockPart fields = clock_fault fields
part_fault PolyPart fields = poly_fault fields

-- the fault of a line that names a station first, which no line may have stated
abbrev pub station_fault : List StationFields → List (List ℕ) → (StationFields → Option JobKind) → Option JobKind
station_fault stations fields fault = option_map_or fault (station_with stations (field fields 0)) (Some Unknown)

-- the fault of a row behind rows that say so much, by its word
unfoldable pub row_fault : Said → Word → List (List ℕ) → Option JobKind
row_fault said Lags fields = double_or_range (is_some said.lags) (lags_in fields)
row_fault said Integration fields = double_or_range (is_some said.integration) (integration_in fields)
row_fault said Epoch fields = double_or_range (is_some said.epoch) (epoch_in fields)
row_fault said Knot fields = double_or_range (is_some said.knot) (knot_in fields)
row_fault said Auto fields = if said.auto then Some Double else None
row_fault said Station fields = double_or_range (is_some (station_with said.stations (field fields 0))) (station_in fields)
row_fault said File fields = station_fault said.stations fields (λ s. None)
row_fault said Chan fields = station_fault said.stations fields (chan_fault fields)
row_fault said Clock fields = station_fault said.stations fields (clock_fault fields)
row_fault said Poly fields = station_fault said.stations fields (poly_fault fields)
row_fault said Product fields =
    if not (has_channel said.stations (field fields 0) && has_channel said.stations (field fields 1)) then Some Unknown
    else if is_pair_among (field fields 0) (field fields 1) said.products then Some Double else None
row_fault said Take fields = if is_among (field fields 0) said.takes then Some Double else None
row_fault said Rate fields = double_or_range (is_some said.rate) (rate_in fields)
row_fault said Scan fields = double_or_range (is_some (named said.scans (field fields 0))) (scan_in fields)
row_fault said Band fields = double_or_range (is_some (named said.bands (field fields 0))) (band_in fields)

-- the fault of fields behind a word: a word of scans stands only in a job that states them itself
unfoldable pub word_fault : Bool → Said → Word → List (List ℕ) → Option JobKind
word_fault inline said word fields =
    if is_inline word && not inline then Some Unknown
    else if not (are_written (needed word) (further word) fields) then Some Line
    else row_fault said word fields

-- the fault of a line's fields, of which the first is to be a word
unfoldable pub fields_fault : Bool → Said → List (List ℕ) → Option JobKind
fields_fault inline said [] = None
fields_fault inline said (first ∷ fields) =
    option_map_or (λ word. word_fault inline said word fields) (word_of first) (Some Unknown)

-- the fault of a line behind rows that say so much
unfoldable pub line_fault : Bool → Said → List ℕ → Option JobKind
line_fault inline said line =
    if not (is_clean line) then Some Line else fields_fault inline said (fields_of line)
