-- The bins of a text, or the first fault.
use Rattle.read_steps.specs.Steps as steps
use Rattle.std.specs.Prelude.{◌≡◌, ◌⊎◌, ℕ, ◌+◌, List, [], ◌∷◌, ◌++◌, filter_map, option_to_list, Option, Some, None, ok_or, Result, Ok, Err}
use Rattle.std.specs.Str.Lines.{lines}
use Rattle.delay_poly.specs.declared.entry.PolyEntry.{PolyEntry}
use Rattle.pulsar_bins.specs.declared.said.Said.{Said}
use Rattle.pulsar_bins.specs.declared.fault.BinsKind.{BinsKind}
use Rattle.pulsar_bins.specs.declared.fault.BinsKind.TheVariants.{Missing, Memory}
use Rattle.pulsar_bins.specs.declared.fault.BinsFault.{BinsFault}
use Rattle.pulsar_bins.specs.Words.{Row, row_of}
use Rattle.pulsar_bins.specs.Said.{said_by}
use Rattle.pulsar_bins.specs.Faults.{line_fault}
use Rattle.pulsar_bins.specs.Bins.{BinsFields}

-- the fault of each line, by the rows of those before it
abbrev pub faults_behind : List Row → List (List ℕ) → List (Option BinsKind)
faults_behind before [] = []
faults_behind before (line ∷ more) =
    line_fault (said_by before) line ∷ faults_behind (before ++ option_to_list (row_of line)) more

-- the first fault, where the lines are counted from this number on
abbrev pub first_fault : ℕ → List (Option BinsKind) → Option BinsFault
first_fault n [] = None
first_fault n (None ∷ more) = first_fault (n + 1) more
first_fault n (Some kind ∷ more) = Some (record { kind = kind; line = n })

-- the bins that rows say, none where the number of bins or the phase is missing
abbrev pub bins_from : Option ℕ → List PolyEntry → Option BinsFields
bins_from None phases = None
bins_from (Some count) [] = None
bins_from (Some count) (e ∷ phases) = Some (record { count = count; phases = e ∷ phases })

abbrev pub bins_by : Said → Option BinsFields
bins_by said = bins_from said.count said.phases

-- the rows of a text
abbrev pub rows_in : List (List ℕ) → List Row
rows_in all = filter_map row_of all

-- the first fault of a line, else the bins of the rows, else that a line is missing
abbrev pub answer_behind : Option BinsFault → Option BinsFields → Result BinsFields BinsFault
answer_behind (Some fault) bins = Err fault
answer_behind None bins = ok_or bins (record { kind = Missing; line = 0 })

-- the bins of a text
unfoldable pub bins_in : List ℕ → Result BinsFields BinsFault
bins_in text = answer_behind (first_fault 1 (faults_behind [] (lines text))) (bins_by (said_by (rows_in (lines text))))

-- want of memory, at no line
abbrev pub out_of_memory : BinsFault
out_of_memory = record { kind = Memory; line = 0 }

-- what a call answers is the wanted answer, or want of memory
abbrev pub Gives : Result BinsFields BinsFault → Result BinsFields BinsFault → Type 0
Gives = steps.Gives out_of_memory (λ x. x)

-- the lines of a text were read: this is what they say; or one was refused, and its fault is the first
abbrev pub Reads : List (List ℕ) → Result (Unit {0}) BinsFault → Said → Type 0
Reads all (Ok _) said = (first_fault 1 (faults_behind [] all) ≡ None) × (said ≡ said_by (rows_in all))
Reads all (Err fault) said = (fault ≡ out_of_memory) ⊎ (first_fault 1 (faults_behind [] all) ≡ Some fault)
