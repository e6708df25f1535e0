-- What one more row adds to what rows say.
use Rattle.std.specs.Prelude.{◌≡◌, ◌⊎◌, ℕ, List, ◌++◌, option_to_list, option_map, Option, Some, None, Result, Ok, Err}
use Rattle.std.specs.Option.{option_or}
use Rattle.pulsar_bins.specs.declared.word.Word.{Word}
use Rattle.pulsar_bins.specs.declared.word.Word.TheVariants.{Count, Phase}
use Rattle.pulsar_bins.specs.declared.said.Said.{Said}
use Rattle.pulsar_bins.specs.declared.fault.BinsKind.{BinsKind}
use Rattle.pulsar_bins.specs.declared.fault.BinsKind.TheVariants.{Memory}
use Rattle.pulsar_bins.specs.declared.fault.BinsFault.{BinsFault}
use Rattle.pulsar_bins.specs.Values.{count_in, phase_in}
use Rattle.pulsar_bins.specs.Words.{Row}

unfoldable pub grown : Said → Word → List (List ℕ) → Said
grown said Count fields = record said { count = option_or (count_in fields) said.count }
grown said Phase fields = record said { phases = said.phases ++ option_to_list (phase_in fields) }

-- what a line adds, which may have no row
abbrev pub grown_by : Said → Option Row → Said
grown_by said None = said
grown_by said (Some row) = grown said row.word row.fields

-- A line was taken: it has no fault, and what is there is what it was to grow to; or it was refused, for its fault or for
-- want of memory.
abbrev pub Takes : Option BinsKind → Said → Result (Unit {0}) BinsKind → Said → Type 0
Takes fault grown (Ok _) new = (fault ≡ None) × (new ≡ grown)
Takes fault grown (Err kind) new = (kind ≡ Memory) ⊎ (fault ≡ Some kind)

-- a fault of this kind in a line; want of memory is at none
abbrev pub fault_in : BinsKind → ℕ → BinsFault
fault_in Memory number = record { kind = Memory; line = 0 }
fault_in kind number = record { kind = kind; line = number }

-- the same of a line, whose fault is told with its number
abbrev pub TakesAt : Option BinsKind → Said → ℕ → Result (Unit {0}) BinsFault → Said → Type 0
TakesAt fault grown number (Ok _) new = (fault ≡ None) × (new ≡ grown)
TakesAt fault grown number (Err e) new =
    (e ≡ record { kind = Memory; line = 0 }) ⊎ (option_map (λ kind. record { kind = kind; line = number }) fault ≡ Some e)
