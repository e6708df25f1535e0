-- What one more row adds to what rows say.
use Rattle.std.specs.Prelude.{◌≡◌, ◌⊎◌, ℕ, ◌^◌, true, List, [], ◌∷◌, ◌++◌, map, bytes_eq, option_to_list, option_map, Option, Some, None, Result, Ok, Err, if◌then◌else◌}
use Rattle.job_lines.specs.Rows.{Row}
use Rattle.job_lines.specs.declared.word.Word.{Word}
use Rattle.job_lines.specs.declared.word.Word.TheVariants.{Lags, Integration, Epoch, Knot, Auto, Station, File, Chan, Clock, Poly, Product, Take, Rate, Scan, Band}
use Rattle.job_text.specs.declared.part.Part.{Part}
use Rattle.job_text.specs.declared.part.Part.TheVariants.{File as FilePart, Chan as ChanPart, Clock as ClockPart, Poly as PolyPart}
use Rattle.job_text.specs.declared.fault.JobKind.{JobKind}
use Rattle.job_text.specs.declared.fault.JobKind.TheVariants.{Memory}
use Rattle.job_text.specs.declared.fault.JobFault.{JobFault}
use Rattle.job_text.specs.Job.{StationFields}
use Rattle.job_text.specs.Values.{field, lags_in, integration_in, epoch_in, knot_in, station_in, chan_in, clock_in, poly_in, rate_in, scan_in, band_in}
use Rattle.job_text.specs.Said.{Said}

-- the stations with that of a key changed
abbrev pub changed : List StationFields → List ℕ → (StationFields → StationFields) → List StationFields
changed stations key change = map (λ s. if bytes_eq s.key key then change s else s) stations

-- a station with what a line says that names it
abbrev pub with_file : List (List ℕ) → StationFields → StationFields
with_file fields s = record s { files = s.files ++ field fields 1 ∷ [] }

abbrev pub with_chan : List (List ℕ) → StationFields → StationFields
with_chan fields s = record s { chans = s.chans ++ option_to_list (chan_in (2 ^ s.chans_log2) fields) }

abbrev pub with_clock : List (List ℕ) → StationFields → StationFields
with_clock fields s = record s { clocks = s.clocks ++ option_to_list (clock_in fields) }

abbrev pub with_poly : List (List ℕ) → StationFields → StationFields
with_poly fields s = record s { polys = s.polys ++ option_to_list (poly_in fields) }

-- the word of the lines that state a part, and a station with what such a line says
abbrev pub word_for : Part → Word
word_for FilePart = File
word_for ChanPart = Chan
word_for ClockPart = Clock
word_for PolyPart = Poly

abbrev pub with_part : Part → List (List ℕ) → StationFields → StationFields
with_part FilePart fields = with_file fields
with_part ChanPart fields = with_chan fields
with_part ClockPart fields = with_clock fields
with_part PolyPart fields = with_poly fields

-- a thing under its name
abbrev pub under : {A : Type 0} → List ℕ → Option A → Option (List ℕ × A)
under name thing = option_map (λ x. (name, x)) thing

unfoldable pub grown : Said → Word → List (List ℕ) → Said
grown said Lags fields = record said { lags = lags_in fields }
grown said Integration fields = record said { integration = integration_in fields }
grown said Epoch fields = record said { epoch = epoch_in fields }
grown said Knot fields = record said { knot = knot_in fields }
grown said Auto fields = record said { auto = true }
grown said Station fields = record said { stations = said.stations ++ option_to_list (station_in fields) }
grown said File fields = record said { stations = changed said.stations (field fields 0) (with_file fields) }
grown said Chan fields = record said { stations = changed said.stations (field fields 0) (with_chan fields) }
grown said Clock fields = record said { stations = changed said.stations (field fields 0) (with_clock fields) }
grown said Poly fields = record said { stations = changed said.stations (field fields 0) (with_poly fields) }
grown said Product fields = record said { products = said.products ++ (field fields 0, field fields 1) ∷ [] }
grown said Take fields = record said { takes = said.takes ++ field fields 0 ∷ [] }
grown said Rate fields = record said { rate = rate_in fields }
grown said Scan fields = record said { scans = said.scans ++ option_to_list (scan_in fields) }
grown said Band fields = record said { bands = said.bands ++ option_to_list (band_in fields) }

-- A line was taken: it has no fault, and what is there is what it was to grow to; or it was refused, for its fault or for
-- want of memory.
abbrev pub Takes : {S : Type 0} → Option JobKind → S → Result (Unit {0}) JobKind → S → Type 0
Takes fault grown (Ok _) new = (fault ≡ None) × (new ≡ grown)
Takes fault grown (Err kind) new = (kind ≡ Memory) ⊎ (fault ≡ Some kind)

-- the same, of a call that takes what is there and gives what it grew to
abbrev pub Grows : {S : Type 0} → Option JobKind → S → Result S JobKind → Type 0
Grows fault grown (Ok new) = (fault ≡ None) × (new ≡ grown)
Grows fault grown (Err kind) = (kind ≡ Memory) ⊎ (fault ≡ Some kind)

-- what a line adds, which may have no row
abbrev pub grown_by : Said → Option Row → Said
grown_by said None = said
grown_by said (Some row) = grown said row.word row.fields

-- the same of a line, whose fault is told with its number
abbrev pub TakesAt : {S : Type 0} → Option JobKind → S → ℕ → Result (Unit {0}) JobFault → S → Type 0
TakesAt fault grown number (Ok _) new = (fault ≡ None) × (new ≡ grown)
TakesAt fault grown number (Err e) new = (e ≡ record { kind = Memory; line = 0 }) ⊎ (option_map (λ kind. record { kind = kind; line = number }) fault ≡ Some e)

-- a fault of this kind in a line; want of memory is at none
abbrev pub fault_in : JobKind → ℕ → JobFault
fault_in Memory number = record { kind = Memory; line = 0 }
fault_in kind number = record { kind = kind; line = number }
