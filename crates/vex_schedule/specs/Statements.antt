-- The statements that a scan, a mode or a def has under a key.
use Rattle.std.specs.Prelude.{◌≡◌, ℕ, ◌<◌, Bool, false, ◌&&◌, ◌||◌, ◌==◌, List, [], ◌∷◌, length, drop, filter, codes, bytes_eq, Option, Some, None, Result, Ok, Err}
use Rattle.std.specs.List.{list_any}
use Rattle.vex_reader.specs.declared.file.Statement.{Statement}
use Rattle.vex_schedule.specs.declared.fault.SchedKind.TheVariants.{MissingStatement, DoubleStatement}
use Rattle.vex_schedule.specs.declared.fault.SchedFault.{SchedFault}
use Rattle.vex_schedule.specs.Answers.{fault}
use Rattle.vex_schedule.specs.Values.{sole}

-- a statement has a key
abbrev pub has_key : List ℕ → Statement → Bool
has_key key statement = bytes_eq statement.key key

-- the only one of some statements: with none, one is missing at `at`, and a second is one too many
unfoldable pub only : ℕ → List Statement → Result Statement SchedFault
only at [] = Err (fault MissingStatement at)
only at (statement ∷ []) = Ok statement
only at (statement ∷ second ∷ more) = Err (fault DoubleStatement second.at)

-- a text is there, and it is the wanted one
abbrev pub is_some_text : List ℕ → Option (List ℕ) → Bool
is_some_text wanted (Some text) = bytes_eq text wanted
is_some_text wanted None = false

-- a value is exactly the one word
abbrev pub is_just : List ℕ → List (List ℕ) → Bool
is_just word value = is_some_text word (sole value)

-- the values of a ref cover a station: it has one value alone, or one of the later ones is exactly the station's key
unfoldable pub covers : List ℕ → List (List (List ℕ)) → Bool
covers key values = (length values == 1) || list_any (is_just key) (drop 1 values)

-- a ref to a def of `$FREQ` that covers a station
unfoldable pub is_setup : List ℕ → Statement → Bool
is_setup key statement = is_some_text (codes "$FREQ") statement.target && covers key statement.values

-- what is found of the statements that pass a test: the first and those behind it, or none
abbrev pub Finds : (Statement → Bool) → List Statement → Option (Statement × List Statement) → Type 0
Finds test statements None = filter test statements ≡ []
Finds test statements (Some found) =
    (filter test statements ≡ found.0 ∷ filter test found.1) × (length found.1 < length statements)
