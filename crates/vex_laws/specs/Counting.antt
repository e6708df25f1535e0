-- What of a file counts for its schedule.
use Rattle.std.specs.Prelude.{◌≡◌, ℕ, Bool, ◌||◌, if◌then◌else◌, List, [], map, filter, codes, bytes_eq, option_map}
use Rattle.vex_reader.specs.declared.file.Item.{Item}
use Rattle.vex_reader.specs.declared.file.Block.{Block}
use Rattle.vex_reader.specs.declared.file.Statement.{Statement}
use Rattle.vex_reader.specs.declared.file.VexFile.{VexFile}
use Rattle.named_list.specs.Named.{named}
use Rattle.vex_schedule.specs.Statements.{has_key}
use Rattle.vex_schedule.specs.Covering.{is_to_freq}
use Rattle.vex_schedule.specs.Schedule.{def_of, schedule_of}

-- the statements that count in a scan
abbrev pub counts_in_scan : Statement → Bool
counts_in_scan statement = has_key (codes "start") statement || has_key (codes "mode") statement || has_key (codes "station") statement

-- those that count in a def of `$MODE`: the refs to `$FREQ`
abbrev pub counts_in_mode : Statement → Bool
counts_in_mode statement = is_to_freq statement

-- those that count in a def of `$FREQ`
abbrev pub counts_in_setup : Statement → Bool
counts_in_setup statement = has_key (codes "sample_rate") statement || has_key (codes "chan_def") statement

-- a scan or a def with those of its statements that pass a test
abbrev pub only_with : (Statement → Bool) → Item → Item
only_with test item = record { at = item.at; statements = filter test item.statements }

-- each of some scans or defs so
abbrev pub each_with : (Statement → Bool) → List (List ℕ × Item) → List (List ℕ × Item)
each_with test items = map (λ item. (item.0, only_with test item.1)) items

-- the defs that count in a block, with what counts in them
abbrev pub counted_defs : List ℕ → List (List ℕ × Item) → List (List ℕ × Item)
counted_defs block defs =
    if bytes_eq block (codes "$MODE") then each_with counts_in_mode defs
    else if bytes_eq block (codes "$FREQ") then each_with counts_in_setup defs
    else []

-- the scans that count in a block, with what counts in them
abbrev pub counted_scans : List ℕ → List (List ℕ × Item) → List (List ℕ × Item)
counted_scans block scans = if bytes_eq block (codes "$SCHED") then each_with counts_in_scan scans else []

-- a block without what does not count
abbrev pub counted_block : List ℕ → Block → Block
counted_block name block = record { loose = []; defs = counted_defs name block.defs; scans = counted_scans name block.scans }

-- a file without what does not count
abbrev pub counted : VexFile → VexFile
counted file = record { blocks = map (λ block. (block.0, counted_block block.0 block.1)) file.blocks }

-- the schedule is that of what counts
abbrev pub IsOfWhatCounts : VexFile → Type 0
IsOfWhatCounts file = schedule_of (counted file) ≡ schedule_of file

-- two files have the same scans, and under each name the same defs of `$MODE` and of `$FREQ`
pub record HaveSameItems (file other : VexFile) : Type 0 where
  pub scans : option_map (λ block. block.scans) (named file.blocks (codes "$SCHED")) ≡ option_map (λ block. block.scans) (named other.blocks (codes "$SCHED"))
  pub modes : (name : List ℕ) → def_of file (codes "$MODE") name ≡ def_of other (codes "$MODE") name
  pub setups : (name : List ℕ) → def_of file (codes "$FREQ") name ≡ def_of other (codes "$FREQ") name

-- files that have the same of what counts have one schedule, or one fault
abbrev pub HaveOneSchedule : VexFile → VexFile → Type 0
HaveOneSchedule file other = HaveSameItems (counted file) (counted other) → schedule_of file ≡ schedule_of other
