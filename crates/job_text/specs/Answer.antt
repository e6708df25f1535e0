-- The job of a text, or the first fault.
use Rattle.read_steps.specs.Steps as steps
use Rattle.std.specs.Prelude.{◌≡◌, ◌⊎◌, ℕ, ◌+◌, Bool, ◌&&◌, ◌||◌, not, nat_lt, if◌then◌else◌, is_some, List, [], ◌∷◌, ◌++◌, length, filter_map, option_to_list, Option, Some, None, ok_or, Result, Ok, Err}
use Rattle.std.specs.Str.Lines.{lines}
use Rattle.job_lines.specs.Rows.{Row, row_of}
use Rattle.job_text.specs.declared.fault.JobKind.{JobKind}
use Rattle.job_text.specs.declared.fault.JobKind.TheVariants.{Missing, Memory}
use Rattle.job_text.specs.declared.fault.JobFault.{JobFault}
use Rattle.job_text.specs.Job.{JobFields}
use Rattle.job_text.specs.Said.{Said, said_by}
use Rattle.job_text.specs.Values.{◌>>=◌}
use Rattle.job_text.specs.Faults.{line_fault}
use Rattle.job_text.specs.Numbers.{job_from}

-- the fault of each line, by the rows of those before it
abbrev pub faults_behind : Bool → List Row → List (List ℕ) → List (Option JobKind)
faults_behind inline before [] = []
faults_behind inline before (line ∷ more) =
    line_fault inline (said_by before) line ∷ faults_behind inline (before ++ option_to_list (row_of line)) more

-- the first fault, where the lines are counted from this number on
abbrev pub first_fault : ℕ → List (Option JobKind) → Option JobFault
first_fault n [] = None
first_fault n (None ∷ more) = first_fault (n + 1) more
first_fault n (Some kind ∷ more) = Some (record { kind = kind; line = n })

-- no line is missing: a station and a product, and in a job that states its scans itself a rate and a scan
abbrev pub is_whole : Bool → Said → Bool
is_whole inline said =
    nat_lt 0 (length said.stations) && (nat_lt 0 (length said.products)
    && (not inline || (is_some said.rate && nat_lt 0 (length said.scans))))

-- The job that rows say, none where a line is missing: `lags`, `integration`, `epoch`, a station, a product, and in a job
-- that states its scans itself `rate` and a scan. Without a `knot` the knots stand 32,768 samples apart.
unfoldable pub job_by : Bool → Said → Option JobFields
job_by inline said = do
  lags ← said.lags
  integration ← said.integration
  epoch ← said.epoch
  if is_whole inline said then Some (job_from said (record { lags = lags; integration = integration; epoch = epoch })) else None

-- the rows of a text
abbrev pub rows_in : List (List ℕ) → List Row
rows_in all = filter_map row_of all

-- the first fault of a line, else the job of the rows, else that a line is missing
abbrev pub answer_behind : Option JobFault → Option JobFields → Result JobFields JobFault
answer_behind (Some fault) job = Err fault
answer_behind None job = ok_or job (record { kind = Missing; line = 0 })

-- the job of a text, which is read beside a schedule or, inline, without one
unfoldable pub job_in : Bool → List ℕ → Result JobFields JobFault
job_in inline text =
    answer_behind (first_fault 1 (faults_behind inline [] (lines text))) (job_by inline (said_by (rows_in (lines text))))

-- want of memory, at no line
abbrev pub out_of_memory : JobFault
out_of_memory = record { kind = Memory; line = 0 }

-- what a call answers is the wanted answer, or want of memory
abbrev pub Gives : Result JobFields JobFault → Result JobFields JobFault → Type 0
Gives = steps.Gives out_of_memory (λ x. x)

-- the lines of a text were read: this is what they say; or one was refused, and its fault is the first
abbrev pub Reads : Bool → List (List ℕ) → Result (Unit {0}) JobFault → Said → Type 0
Reads inline all (Ok _) said = (first_fault 1 (faults_behind inline [] all) ≡ None) × (said ≡ said_by (rows_in all))
Reads inline all (Err fault) said = (fault ≡ out_of_memory) ⊎ (first_fault 1 (faults_behind inline [] all) ≡ Some fault)
