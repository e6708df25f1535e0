-- Which refs of a mode cover which stations, by the places of the refs among the mode's statements.
use Rattle.std.specs.Prelude.{◌≡◌, ℕ, ◌<◌, Bool, ◌&&◌, ◌==◌, if◌then◌else◌, List, [], ◌∷◌, length, take, drop, filter, slice_get, codes, Some, unwrap_or, option_map}
use Rattle.std.specs.List.{list_any}
use Rattle.vex_reader.specs.declared.file.Item.{Item}
use Rattle.vex_reader.specs.declared.file.Statement.{Statement}
use Rattle.vex_reader.specs.declared.file.VexFile.{VexFile}
use Rattle.named_list.specs.Named.{named}
use Rattle.vex_schedule.specs.declared.covering.Found.{Found}
use Rattle.vex_schedule.specs.declared.covering.Found.TheVariants.{Nowhere, Once, Often}
use Rattle.vex_schedule.specs.declared.covering.Covering.{Covering}
use Rattle.vex_schedule.specs.Statements.{is_some_text, is_just}
use Rattle.vex_schedule.specs.Schedule.{defs_in}

-- a ref to a def of `$FREQ`
abbrev pub is_to_freq : Statement → Bool
is_to_freq statement = is_some_text (codes "$FREQ") statement.target

-- a ref that covers each station: it has one value alone
abbrev pub covers_each : Statement → Bool
covers_each statement = is_to_freq statement && (length statement.values == 1)

-- a ref that covers a station by its key, which is one of its later values
abbrev pub covers_by : List ℕ → Statement → Bool
covers_by key statement = is_to_freq statement && list_any (is_just key) (drop 1 statement.values)

-- what was found, with one more at a place; what is found twice at one place counts once
abbrev pub noted : Found → ℕ → Found
noted Nowhere i = Once i
noted (Once at) i = if at == i then Once at else Often
noted Often i = Often

-- the same, where a test says that there is one more
abbrev pub noted_if : Bool → Found → ℕ → Found
noted_if more found i = if more then noted found i else found

-- what was found for a key
abbrev pub found_in : List (List ℕ × Found) → List ℕ → Found
found_in found key = unwrap_or (named found key) Nowhere

-- of the first `n` statements only the one at a place passes a test
pub record IsOnlyAt (test : Statement → Bool) (statements : List Statement) (n place : ℕ) : Type 0 where
  pub statement : Statement
  pub before : place < n
  pub there : slice_get statements place ≡ Some statement
  pub only : filter test (take n statements) ≡ statement ∷ []

-- what was found is true of the first `n` statements
abbrev pub IsFound : (Statement → Bool) → List Statement → ℕ → Found → Type 0
IsFound test statements n Nowhere = filter test (take n statements) ≡ []
IsFound test statements n (Once place) = IsOnlyAt test statements n place
IsFound test statements n Often = Unit {0}

-- what was found of the refs that cover each station, and of those that cover a station by its key, is true of the first `n`
-- statements
pub record IsCovering (statements : List Statement) (n : ℕ) (covering : Covering) : Type 0 where
  pub each : IsFound covers_each statements n covering.each
  pub by_key : (key : List ℕ) → IsFound (covers_by key) statements n (found_in covering.by_key key)

-- these are true of the defs of `$MODE`, in their order
pub record AreCoverings (file : VexFile) (coverings : List Covering) : Type 0 where
  pub long : length coverings ≡ length (defs_in file (codes "$MODE"))
  pub each : (i : ℕ) (covering : Covering) (mode : Item) → slice_get coverings i ≡ Some covering
      → option_map (λ x. x.1) (slice_get (defs_in file (codes "$MODE")) i) ≡ Some mode → IsCovering mode.statements (length mode.statements) covering
