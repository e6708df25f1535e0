-- Shards on a shelf, as a source of the cells of a record file.
use Rattle.std.specs.Prelude.{◌≡◌, ℕ, List, [], length, Option, Some, None, option_map, Result, Ok, Err}
use Rattle.dev_traits.specs.Fault.{HasRisen}
use Rattle.dev_traits.specs.declared.Failed.{Failed}
use Rattle.corr_model.specs.Files.{Files}
use Rattle.corr_model.specs.Records.{Head}
use Rattle.piece_plan.specs.Epochs.{JobSizes}
use Rattle.journal_image.specs.Image.{KeptEpoch}
use Rattle.vis_writer.specs.declared.fault.WriteFault.{WriteFault}
use Rattle.vis_writer.specs.declared.fault.WriteFault.TheVariants.{Source, Sink}
use Rattle.vis_writer.specs.Cells.{CellsOf, cells_at}
use Rattle.vis_writer.specs.Writes.{Writes}
use Rattle.shard_merge.specs.declared.shard.Shard.{Shard}
use Rattle.shard_merge.specs.declared.fault.OutputFault.{OutputFault}
use Rattle.shard_merge.specs.declared.fault.OutputFault.TheVariants.{Read, Write}
use Rattle.shard_merge.specs.Covers.{width_at}
use Rattle.shard_merge.specs.Merged.{first_image, merged_cells}
use Rattle.shard_merge.specs.Reading.{AreReadFrom, IsReadFrom}

-- a head with the scans of a job, and with as many cells for the integrations of each
pub record IsHeadOf (job : JobSizes) (head : Head) : Type 0 where
  pub many : length head.scans ≡ length job.scans
  pub wide : (number : ℕ) → cells_at head number ≡ width_at job number

-- the first of some images is that of this shard, or has no epoch where there is none
abbrev pub IsFirst : Files → List ℕ → JobSizes → List (List KeptEpoch) → Option Shard → Type 0
IsFirst files id job keeps None = first_image keeps ≡ []
IsFirst files id job keeps (Some s) = IsReadFrom files id job s (first_image keeps)

-- calls without a fault leave what the shelf tells and its count as they are; with a fault the count rose
pub record Stays {F : Type 0} (told : F → Option Files) (count : F → ℕ) (old new : F) : Type 0 where
  pub same : told new ≡ told old
  pub count_stays : count new ≡ count old

pub record Fails {F : Type 0} (told : F → Option Files) (count : F → ℕ) (old new : F) (fault : Failed) : Type 0 where
  pub same : told new ≡ told old
  pub risen : HasRisen (count old) (count new)

-- the shelf tells files of the shards that keep these epochs
pub record Tells {F : Type 0} (told : F → Option Files) (job : JobSizes) (shards : List Shard) (keeps : List (List KeptEpoch)) (shelf : F) : Type 0 where
  pub files : Files
  pub there : told shelf ≡ Some files
  pub id : List ℕ
  pub read : AreReadFrom files id job shards keeps

-- epochs that the shelf tells, or none where nothing is asked of it
abbrev pub IsSource : {F : Type 0} → (F → Option Files) → JobSizes → List Shard → Option (List (List KeptEpoch)) → F → Type 0
IsSource told job shards None shelf = Unit {0}
IsSource told job shards (Some keeps) shelf = Tells told job shards keeps shelf

-- the head, and the merged cells of such epochs
abbrev pub head_by : {F : Type 0} → Head → F → Head
head_by head shelf = head

abbrev pub cells_by : {F : Type 0} → JobSizes → Option (List (List KeptEpoch)) → F → Option CellsOf
cells_by job keeps shelf = option_map (merged_cells job) keeps

-- Where the shelf tells epochs of the shards, the text that their merged cells make is appended.
pub record WritesMerged {F T : Type 0} (told : F → Option Files) (count : F → ℕ) (head : Head) (job : JobSizes) (shards : List Shard)
    (text : CellsOf → List ℕ) (old new : F) (out out' : Option (List ℕ)) (faults faults' : ℕ) (result : Result T (WriteFault Failed)) : Type 0 where
  pub at : (keeps : Option (List (List KeptEpoch))) → IsSource told job shards keeps old
      → Writes (head_by head) (cells_by job keeps) (Stays told count) (Fails told count) text old new out out' faults faults' result

-- why the writing ended, and the answer
abbrev pub fault_of : WriteFault Failed → OutputFault
fault_of (Source fault) = Read
fault_of Sink = Write

abbrev pub answer_of : {T : Type 0} → Result T (WriteFault Failed) → Result T OutputFault
answer_of (Ok x) = Ok x
answer_of (Err fault) = Err (fault_of fault)
