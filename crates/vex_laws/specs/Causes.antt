-- What is wrong at the place of a schedule's fault.
use Rattle.std.specs.Prelude.{◌≡◌, ◌⊎◌, ℕ, Bool, false, List, [], ◌∷◌, ◌++◌, filter, codes, Option, None, Some, is_some, option_map, Contains, Any, Ok, Err, IsOkAnd}
use Rattle.vex_reader.specs.declared.file.Item.{Item}
use Rattle.vex_reader.specs.declared.file.Statement.{Statement}
use Rattle.vex_reader.specs.declared.file.VexFile.{VexFile}
use Rattle.named_list.specs.Named.{named}
use Rattle.vex_schedule.specs.declared.fault.SchedKind.{SchedKind}
use Rattle.vex_schedule.specs.declared.fault.SchedKind.TheVariants.{NoSched, MissingStatement, DoubleStatement, UnknownRef, BadValue, StationTwice, BadRange, Memory}
use Rattle.vex_schedule.specs.declared.fault.SchedFault.{SchedFault}
use Rattle.vex_schedule.specs.Statements.{has_key, is_setup}
use Rattle.vex_schedule.specs.Values.{is_name, word_at, only_word, start_in, rate_in, stay_in, chan_in}
use Rattle.vex_schedule.specs.Schedule.{def_of, is_in_order, mode_of, stays_of, schedule_of}
use Rattle.vex_schedule.specs.Laws.{IsTheOne}
use Rattle.vex_laws.specs.Stands.{HasScan}

-- a station of the key takes part in a scan of the mode
pub record Observes (file : VexFile) (mode : Item) (key : List ℕ) : Type 0 where
  pub name : List ℕ
  pub scan : Item
  pub there : HasScan file name scan
  pub in_mode : mode_of file scan ≡ Ok mode
  pub station : IsOkAnd (stays_of scan) (λ stays. Any (λ stay. stay.key ≡ key) stays)

-- the one ref of such a mode that covers such a station
pub record SetsUp (file : VexFile) (ref : Statement) : Type 0 where
  pub mode : Item
  pub key : List ℕ
  pub observes : Observes file mode key
  pub one : IsTheOne (is_setup key) mode.statements ref

-- the def of `$FREQ` that such a ref names
pub record IsSetup (file : VexFile) (def : Item) : Type 0 where
  pub ref : Statement
  pub sets_up : SetsUp file ref
  pub name : List ℕ
  pub says : word_at ref.values 0 ≡ Some name
  pub there : def_of file (codes "$FREQ") name ≡ Some def

-- of a scan, a mode or a setup exactly one statement has to pass the test
pub data WantsOne (file : VexFile) : Item → (Statement → Bool) → Type 0 where
  one_start : (name : List ℕ) (scan : Item) → HasScan file name scan → WantsOne file scan (has_key (codes "start"))
  one_mode : (name : List ℕ) (scan : Item) → HasScan file name scan → WantsOne file scan (has_key (codes "mode"))
  one_ref : (mode : Item) (key : List ℕ) → Observes file mode key → WantsOne file mode (is_setup key)
  one_rate : (def : Item) → IsSetup file def → WantsOne file def (has_key (codes "sample_rate"))

-- whether the values of a statement have the form that they have to have
pub data HasForm (file : VexFile) : Statement → Bool → Type 0 where
  start_form : (name : List ℕ) (scan : Item) (statement : Statement) → HasScan file name scan → IsTheOne (has_key (codes "start")) scan.statements statement
      → HasForm file statement (is_some (start_in statement.values))
  mode_form : (name : List ℕ) (scan : Item) (statement : Statement) → HasScan file name scan → IsTheOne (has_key (codes "mode")) scan.statements statement
      → HasForm file statement (is_some (only_word statement.values))
  station_form : (name : List ℕ) (scan : Item) (statement : Statement) → HasScan file name scan → Contains (filter (has_key (codes "station")) scan.statements) statement
      → HasForm file statement (is_some (stay_in statement.values))
  ref_form : (statement : Statement) → SetsUp file statement → HasForm file statement (is_some (word_at statement.values 0))
  rate_form : (def : Item) (statement : Statement) → IsSetup file def → IsTheOne (has_key (codes "sample_rate")) def.statements statement
      → HasForm file statement (is_some (rate_in statement.values))
  chan_form : (def : Item) (statement : Statement) → IsSetup file def → Contains (filter (has_key (codes "chan_def")) def.statements) statement
      → HasForm file statement (is_some (chan_in statement.values))

-- a statement names a def of a block
pub data NamesDef (file : VexFile) : Statement → List ℕ → List ℕ → Type 0 where
  mode_def : (name : List ℕ) (scan : Item) (statement : Statement) (def : List ℕ) → HasScan file name scan → IsTheOne (has_key (codes "mode")) scan.statements statement
      → only_word statement.values ≡ Some def → NamesDef file statement (codes "$MODE") def
  ref_def : (statement : Statement) (def : List ℕ) → SetsUp file statement → word_at statement.values 0 ≡ Some def → NamesDef file statement (codes "$FREQ") def

-- a statement says a name that one before it says
pub record SaysAgain {A : Type 0} (read : List (List (List ℕ)) → Option A) (name : A → List ℕ) (statements : List Statement) (statement : Statement) : Type 0 where
  pub front : List Statement
  pub behind : List Statement
  pub cut : statements ≡ front ++ statement ∷ behind
  pub earlier : Statement
  pub before : Contains front earlier
  pub said : A
  pub says : A
  pub first : read earlier.values ≡ Some said
  pub second : read statement.values ≡ Some says
  pub same : name said ≡ name says

-- a statement that has to be there once is not
pub record IsMissing (file : VexFile) (at : ℕ) : Type 0 where
  pub item : Item
  pub test : Statement → Bool
  pub wants : WantsOne file item test
  pub none : filter test item.statements ≡ []
  pub place : item.at ≡ at

-- it is there again
pub record IsDouble (file : VexFile) (at : ℕ) : Type 0 where
  pub item : Item
  pub test : Statement → Bool
  pub wants : WantsOne file item test
  pub first : Statement
  pub second : Statement
  pub behind : List Statement
  pub twice : filter test item.statements ≡ first ∷ second ∷ behind
  pub place : second.at ≡ at

-- a channel of a setup has the name of one before it
pub record IsDoubleChan (file : VexFile) (at : ℕ) : Type 0 where
  pub def : Item
  pub setup : IsSetup file def
  pub statement : Statement
  pub again : SaysAgain chan_in (λ chan. chan.id) (filter (has_key (codes "chan_def")) def.statements) statement
  pub place : statement.at ≡ at

-- a def that is named is not there
pub record IsUnknown (file : VexFile) (at : ℕ) : Type 0 where
  pub statement : Statement
  pub block : List ℕ
  pub def : List ℕ
  pub names : NamesDef file statement block def
  pub none : def_of file block def ≡ None
  pub place : statement.at ≡ at

-- a scan of a file, under its name
pub record NamedScan (file : VexFile) : Type 0 where
  pub name : List ℕ
  pub scan : Item
  pub there : HasScan file name scan

-- a scan's name is none
pub record IsBadName (file : VexFile) (at : ℕ) : Type 0 where
  pub of : NamedScan file
  pub bad : is_name of.name ≡ false
  pub place : of.scan.at ≡ at

-- the values of a statement have another form
pub record IsBadForm (file : VexFile) (at : ℕ) : Type 0 where
  pub statement : Statement
  pub bad : HasForm file statement false
  pub place : statement.at ≡ at

-- a station of a scan is that of a `station` before it
pub record IsStationTwice (file : VexFile) (at : ℕ) : Type 0 where
  pub of : NamedScan file
  pub statement : Statement
  pub again : SaysAgain stay_in (λ stay. stay.key) (filter (has_key (codes "station")) of.scan.statements) statement
  pub place : statement.at ≡ at

-- a station of a scan starts before the scan, or stops before it starts
pub record IsBadRange (file : VexFile) (at : ℕ) : Type 0 where
  pub of : NamedScan file
  pub statement : Statement
  pub among : Contains (filter (has_key (codes "station")) of.scan.statements) statement
  pub order : option_map is_in_order (stay_in statement.values) ≡ Some false
  pub place : statement.at ≡ at

-- what is wrong at the place of a fault of a kind
abbrev pub IsCause : VexFile → SchedKind → ℕ → Type 0
IsCause file NoSched at = (at ≡ 0) × (named file.blocks (codes "$SCHED") ≡ None)
IsCause file MissingStatement at = IsMissing file at
IsCause file DoubleStatement at = IsDouble file at ⊎ IsDoubleChan file at
IsCause file UnknownRef at = IsUnknown file at
IsCause file BadValue at = IsBadName file at ⊎ IsBadForm file at
IsCause file StationTwice at = IsStationTwice file at
IsCause file BadRange at = IsBadRange file at
IsCause file Memory at = ⊥

-- a file that has no schedule has the cause that its fault says, at the fault's place
abbrev pub HasCause : VexFile → Type 0
HasCause file = (fault : SchedFault) → schedule_of file ≡ Err fault → IsCause file fault.kind fault.at
