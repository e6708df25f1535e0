-- What stands in a file of a schedule.
use Rattle.std.specs.Prelude.{◌≡◌, ◌⊎◌, ℕ, List, codes, Some, Contains, Err}
use Rattle.vex_reader.specs.declared.file.Item.{Item}
use Rattle.vex_reader.specs.declared.file.Block.{Block}
use Rattle.vex_reader.specs.declared.file.Statement.{Statement}
use Rattle.vex_reader.specs.declared.file.VexFile.{VexFile}
use Rattle.named_list.specs.Named.{named}
use Rattle.vex_schedule.specs.declared.fault.SchedKind.TheVariants.{NoSched}
use Rattle.vex_schedule.specs.declared.fault.SchedFault.{SchedFault}
use Rattle.vex_schedule.specs.Schedule.{def_of, schedule_of}

-- a scan of the file under its name: one of the block `$SCHED`
pub record HasScan (file : VexFile) (name : List ℕ) (scan : Item) : Type 0 where
  pub block : Block
  pub there : named file.blocks (codes "$SCHED") ≡ Some block
  pub among : Contains block.scans (name, scan)

-- a scan or a def of the file
abbrev pub HasItem : VexFile → Item → Type 0
HasItem file item = ((name : List ℕ) × HasScan file name item) ⊎ ((block : List ℕ) × (name : List ℕ) × (def_of file block name ≡ Some item))

-- a scan or a def of the file begins at the place, or a statement of one
pub record BeginsAt (file : VexFile) (at : ℕ) : Type 0 where
  pub item : Item
  pub there : HasItem file item
  pub begins : (item.at ≡ at) ⊎ ((statement : Statement) × Contains item.statements statement × (statement.at ≡ at))

-- a fault is at 0 where it is that of a missing `$SCHED`, and else where a scan, a def or a statement of one begins
abbrev pub HasPlace : VexFile → Type 0
HasPlace file = (fault : SchedFault) → schedule_of file ≡ Err fault → ((fault.kind ≡ NoSched) × (fault.at ≡ 0)) ⊎ BeginsAt file fault.at
