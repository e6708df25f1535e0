-- What the scans of a schedule are, said of each by itself: statements and defs that are there, with no order of reading.
use Rattle.std.specs.Prelude.{◌≡◌, ◌≢◌, ℕ, ℤ, Bool, true, List, [], ◌∷◌, map, take, filter, codes, None, Some, AllPairs}
use Rattle.std.specs.List.{AllZip}
use Rattle.vex_reader.specs.declared.file.Item.{Item}
use Rattle.vex_reader.specs.declared.file.Block.{Block}
use Rattle.vex_reader.specs.declared.file.Statement.{Statement}
use Rattle.vex_reader.specs.declared.file.VexFile.{VexFile}
use Rattle.named_list.specs.Named.{named}
use Rattle.scan_list.specs.declared.scan.Chan.{Chan}
use Rattle.scan_list.specs.declared.scan.Pass.{Pass}
use Rattle.scan_list.specs.declared.scan.Scan.{Scan}
use Rattle.vex_schedule.specs.declared.stay.Stay.{Stay}
use Rattle.vex_schedule.specs.Statements.{has_key, is_setup}
use Rattle.vex_schedule.specs.Values.{is_name, word_at, only_word, start_in, rate_in, stay_in, chan_in}
use Rattle.vex_schedule.specs.Schedule.{is_in_order, def_of, stay_of}

-- exactly one of some statements passes a test, and this is it
abbrev pub IsTheOne : (Statement → Bool) → List Statement → Statement → Type 0
IsTheOne test statements statement = filter test statements ≡ statement ∷ []

-- a scan starts at the second that its one `start` says
pub record IsStart (scan : Item) (second : ℤ) : Type 0 where
  pub statement : Statement
  pub one : IsTheOne (has_key (codes "start")) scan.statements statement
  pub says : start_in statement.values ≡ Some second

-- a scan's mode is the def of `$MODE` that its one `mode` names
pub record IsMode (file : VexFile) (scan mode : Item) : Type 0 where
  pub statement : Statement
  pub one : IsTheOne (has_key (codes "mode")) scan.statements statement
  pub name : List ℕ
  pub says : only_word statement.values ≡ Some name
  pub there : def_of file (codes "$MODE") name ≡ Some mode

-- a `station` names a station that starts at the scan's start or later and does not stop before
pub record IsStayOf (statement : Statement) (stay : Stay) : Type 0 where
  pub says : stay_in statement.values ≡ Some stay
  pub order : is_in_order stay ≡ true

-- a def of `$FREQ` has the sample rate of its one `sample_rate`, and the channels of its `chan_def`, one by one, with
-- different names
pub record IsSetupOf (def : Item) (samples : ℕ) (channels : List Chan) : Type 0 where
  pub statement : Statement
  pub one : IsTheOne (has_key (codes "sample_rate")) def.statements statement
  pub says : rate_in statement.values ≡ Some samples
  pub each : AllZip (λ chan_def chan. chan_in chan_def.values ≡ Some chan) (filter (has_key (codes "chan_def")) def.statements) channels
  pub differ : AllPairs (λ x y. x ≢ y) (map (λ chan. chan.id) channels)

-- a station's part is as long as the station stays, and has the sample rate and the channels of the def that is named by the
-- one ref to `$FREQ` of the mode that covers the station
pub record IsPassOf (file : VexFile) (mode : Item) (stay : Stay) (pass : Pass) : Type 0 where
  pub ref : Statement
  pub one : IsTheOne (is_setup stay.key) mode.statements ref
  pub name : List ℕ
  pub says : word_at ref.values 0 ≡ Some name
  pub def : Item
  pub there : def_of file (codes "$FREQ") name ≡ Some def
  pub setup : IsSetupOf def pass.rate pass.chans
  pub station : pass.key ≡ stay.key
  pub starts : pass.from_us ≡ stay.from_us
  pub stops : pass.to_us ≡ stay.to_us
  pub samples : pass.samples ≡ None

-- a scan has its name, start and mode; its `station` statements name different stations, one by one, and each has its part
pub record IsScanOf (file : VexFile) (entry : List ℕ × Item) (scan : Scan) : Type 0 where
  pub name : scan.name ≡ entry.0
  pub short : is_name entry.0 ≡ true
  pub start : IsStart entry.1 scan.second
  pub mode : Item
  pub is_mode : IsMode file entry.1 mode
  pub stays : List Stay
  pub each : AllZip IsStayOf (filter (has_key (codes "station")) entry.1.statements) stays
  pub differ : AllPairs (λ x y. x ≢ y) (map (λ stay. stay.key) stays)
  pub parts : AllZip (IsPassOf file mode) stays scan.passes

-- the scans of a file are those of its block `$SCHED`, one by one
pub record AreScansOf (file : VexFile) (scans : List Scan) : Type 0 where
  pub block : Block
  pub there : named file.blocks (codes "$SCHED") ≡ Some block
  pub each : AllZip (IsScanOf file) block.scans scans

-- the values of a `station` behind the third do not count
abbrev pub LaterValuesDoNotCount : Statement → Statement → Type 0
LaterValuesDoNotCount statement other =
    statement.at ≡ other.at → take 3 statement.values ≡ take 3 other.values → (before : List Stay) → stay_of before statement ≡ stay_of before other
