-- The schedule of a VEX file: its scans, with the second at which each starts, the stations that take part, and the
-- sample rate and the channels of each station by the scan's mode.
use Rattle.std.specs.Prelude.{ℕ, ℤ, pos, int_le, Bool, not, ◌&&◌, if◌then◌else◌, List, [], filter, codes, bytes_eq, Option, None, Result, Ok, Err}
use Rattle.std.specs.List.{list_any}
use Rattle.std.specs.Option.{option_map_or}
use Rattle.vex_reader.specs.declared.file.Item.{Item}
use Rattle.vex_reader.specs.declared.file.Statement.{Statement}
use Rattle.vex_reader.specs.declared.file.VexFile.{VexFile}
use Rattle.named_list.specs.Named.{named}
use Rattle.vex_schedule.specs.declared.fault.SchedKind.TheVariants.{NoSched, DoubleStatement, UnknownRef, BadValue, StationTwice, BadRange}
use Rattle.vex_schedule.specs.declared.fault.SchedFault.{SchedFault}
use Rattle.scan_list.specs.declared.scan.Chan.{Chan}
use Rattle.scan_list.specs.declared.scan.Pass.{Pass}
use Rattle.scan_list.specs.declared.scan.Scan.{Scan}
use Rattle.vex_schedule.specs.declared.stay.Stay.{Stay}
use Rattle.read_steps.specs.Steps.{◌>>=◌, in_turn}
use Rattle.vex_schedule.specs.Answers.{fault, given}
use Rattle.vex_schedule.specs.Statements.{has_key, only, is_setup}
use Rattle.vex_schedule.specs.Values.{is_name, word_at, only_word, start_in, rate_in, stay_in, chan_in}

-- the defs of a block, none where it is not there
abbrev pub defs_in : VexFile → List ℕ → List (List ℕ × Item)
defs_in file block = option_map_or (λ b. b.defs) (named file.blocks block) []

-- the def of a name in a block, if both are there
unfoldable pub def_of : VexFile → List ℕ → List ℕ → Option Item
def_of file block name = named (defs_in file block) name

-- the second at which a scan starts
unfoldable pub start_of : Item → Result ℤ SchedFault
start_of scan = do
  statement ← only scan.at (filter (has_key (codes "start")) scan.statements)
  given (start_in statement.values) BadValue statement.at

-- the mode of a scan
unfoldable pub mode_of : VexFile → Item → Result Item SchedFault
mode_of file scan = do
  statement ← only scan.at (filter (has_key (codes "mode")) scan.statements)
  name ← given (only_word statement.values) BadValue statement.at
  given (def_of file (codes "$MODE") name) UnknownRef statement.at

-- a station starts at the scan's start or later, and does not stop before it starts
abbrev pub is_in_order : Stay → Bool
is_in_order stay = int_le (pos 0) stay.from_us && int_le stay.from_us stay.to_us

-- a station of a scan, behind those that were named before
unfoldable pub stay_of : List Stay → Statement → Result Stay SchedFault
stay_of before statement = do
  stay ← given (stay_in statement.values) BadValue statement.at
  if list_any (λ other. bytes_eq other.key stay.key) before then Err (fault StationTwice statement.at)
      else if not (is_in_order stay) then Err (fault BadRange statement.at)
      else Ok stay

-- the stations of a scan
unfoldable pub stays_of : Item → Result (List Stay) SchedFault
stays_of scan = in_turn stay_of [] (filter (has_key (codes "station")) scan.statements)

-- the sample rate of a def
unfoldable pub setup_rate : Item → Result ℕ SchedFault
setup_rate setup = do
  statement ← only setup.at (filter (has_key (codes "sample_rate")) setup.statements)
  given (rate_in statement.values) BadValue statement.at

-- a channel of a def, behind those that were defined before
unfoldable pub chan_of : List Chan → Statement → Result Chan SchedFault
chan_of before statement = do
  chan ← given (chan_in statement.values) BadValue statement.at
  if list_any (λ other. bytes_eq other.id chan.id) before then Err (fault DoubleStatement statement.at) else Ok chan

-- the channels of a def
unfoldable pub chans_of : Item → Result (List Chan) SchedFault
chans_of setup = in_turn chan_of [] (filter (has_key (codes "chan_def")) setup.statements)

-- what a def of `$FREQ` gives a station: its sample rate and its channels
pub record Part : Type 0 where
  pub rate : ℕ
  pub chans : List Chan

unfoldable pub setup_in : Item → Result Part SchedFault
setup_in setup = do
  rate ← setup_rate setup
  chans ← chans_of setup
  Ok (record { rate = rate; chans = chans })

-- what a ref to `$FREQ` gives
unfoldable pub setup_at : VexFile → Statement → Result Part SchedFault
setup_at file ref = do
  name ← given (word_at ref.values 0) BadValue ref.at
  setup ← given (def_of file (codes "$FREQ") name) UnknownRef ref.at
  setup_in setup

-- what a mode gives a station, by the one of its refs that covers it
unfoldable pub setup_of : VexFile → Item → List ℕ → Result Part SchedFault
setup_of file mode key = do
  ref ← only mode.at (filter (is_setup key) mode.statements)
  setup_at file ref

-- the part that a station takes in a scan of a mode
unfoldable pub pass_of : VexFile → Item → Stay → Result Pass SchedFault
pass_of file mode stay = do
  setup ← setup_of file mode stay.key
  Ok (record { key = stay.key; from_us = stay.from_us; to_us = stay.to_us; samples = None; rate = setup.rate; chans = setup.chans })

-- the parts that some stations take in a scan of a mode
unfoldable pub passes_of : VexFile → Item → List Stay → Result (List Pass) SchedFault
passes_of file mode stays = in_turn (λ before stay. pass_of file mode stay) [] stays

-- a scan by its name and its statements; its stations are all read before the first of their setups
unfoldable pub scan_of : VexFile → List ℕ → Item → Result Scan SchedFault
scan_of file name scan = do
  second ← if is_name name then start_of scan else Err (fault BadValue scan.at)
  mode ← mode_of file scan
  stays ← stays_of scan
  passes ← passes_of file mode stays
  Ok (record { name = name; second = second; passes = passes })

-- the scans of a block in their order
unfoldable pub scans_of : VexFile → List (List ℕ × Item) → Result (List Scan) SchedFault
scans_of file scans = in_turn (λ before scan. scan_of file scan.0 scan.1) [] scans

-- the scans of a file, or the first fault
unfoldable pub schedule_of : VexFile → Result (List Scan) SchedFault
schedule_of file = do
  sched ← given (named file.blocks (codes "$SCHED")) NoSched 0
  scans_of file sched.scans
