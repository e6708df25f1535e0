-- A journal on its disk, as a source of the cells of a plan's records.
use Rattle.std.specs.Prelude.{◌≡◌, ℕ, ◌≤◌, List, length, Option, Some, None, Result, option_map}
use Rattle.dev_traits.specs.Fault.{HasRisen}
use Rattle.corr_model.specs.Records.{Head}
use Rattle.piece_plan.specs.declared.epoch.EpochPlan.{EpochPlan}
use Rattle.piece_plan.specs.Epochs.{JobSizes, IsEpoch, cell_count}
use Rattle.piece_plan.specs.Order.{Place}
use Rattle.plan_places.specs.Places.{place_at}
use Rattle.job_plan.specs.declared.plan.Plan.{Plan}
use Rattle.job_plan.specs.Ranges.{IsPlan}
use Rattle.job_plan.specs.Output.{head_of}
use Rattle.job_epochs.specs.Sizes.{sizes_of}
use Rattle.journal_image.specs.Image.{KeptEpoch, Keeps}
use Rattle.checkpoint_journal.specs.Runs.{Looks}
use Rattle.checkpoint_journal.specs.declared.fault.ReadFault.{ReadFault}
use Rattle.checkpoint_journal.specs.Standing.{JournalState, Stands}
use Rattle.vis_writer.specs.declared.fault.WriteFault.{WriteFault}
use Rattle.vis_writer.specs.Cells.{CellsOf}
use Rattle.vis_writer.specs.Writes.{Writes}
use Rattle.journal_records.specs.Kept.{kept_cells, Grows}

-- a plan in its ranges, and the sizes that it is cut by
pub record IsCut (plan : Plan) (job : JobSizes) : Type 0 where
  pub plan_is : IsPlan plan
  pub same : job ≡ sizes_of plan
  pub few_scans : length plan.scans ≤ 8388608

-- room for the cells of each epoch of the job
abbrev pub IsRoom : JobSizes → ℕ → Type 0
IsRoom job n = (e : EpochPlan) → IsEpoch job e → cell_count e ≤ n

-- a journal and its disk
pub record Store (D : Type 0) : Type 0 where
  pub journal : JournalState
  pub disk : D

abbrev pub store : {D : Type 0} → JournalState → D → Store D
store journal disk = record { journal = journal; disk = disk }

-- the journal of the job with this identity stands on the disk
abbrev pub StandsAt : {D : Type 0} → (D → Option (List ℕ)) → (D → ℕ) → (D → ℕ → List ℕ → Type 0) → JobSizes → List ℕ → Store D → Type 0
StandsAt seen moment may_leave job id s = Stands id job s.journal (seen s.disk) (may_leave s.disk (moment s.disk))

-- The disk tells its content: the journal of the job with this identity stands on it, keeps these epochs, which cover the job,
-- and is read up to this place.
pub record Tells {D : Type 0} (seen : D → Option (List ℕ)) (moment : D → ℕ) (may_leave : D → ℕ → List ℕ → Type 0) (job : JobSizes)
    (id : List ℕ) (kept : List KeptEpoch) (due : Option Place) (s : Store D) : Type 0 where
  pub stands : StandsAt seen moment may_leave job id s
  pub covers : s.journal.end.next ≡ None
  pub image : List ℕ
  pub told : seen s.disk ≡ Some image
  pub keeps : Keeps id job image kept
  pub up_to : option_map place_at s.journal.here.next ≡ due

-- calls that go on reading, from one place to another
abbrev pub Reaches : {D : Type 0} → (D → Option (List ℕ)) → (D → ℕ) → (D → ℕ → List ℕ → Type 0) → JobSizes → Option Place → Option Place → Store D → Store D → Type 0
Reaches seen moment may_leave job from to old new =
    (id : List ℕ) (kept : List KeptEpoch) → Tells seen moment may_leave job id kept from old
    → option_map place_at new.journal.here.next ≡ to

-- nothing is written, and the journal stands where it stood and keeps what it kept
pub record Rests {D : Type 0} (seen : D → Option (List ℕ)) (moment : D → ℕ) (may_leave : D → ℕ → List ℕ → Type 0) (job : JobSizes) (old new : Store D) : Type 0 where
  pub stands : (id : List ℕ) → StandsAt seen moment may_leave job id old → StandsAt seen moment may_leave job id new
  pub end : new.journal.end ≡ old.journal.end
  pub looks : Looks seen moment may_leave old.disk new.disk

-- so do calls without a fault, and a fault is one of the disk
pub record Stays {D : Type 0} (seen : D → Option (List ℕ)) (moment : D → ℕ) (may_leave : D → ℕ → List ℕ → Type 0) (count : D → ℕ) (job : JobSizes) (old new : Store D) : Type 0 where
  pub rests : Rests seen moment may_leave job old new
  pub count_stays : count new.disk ≡ count old.disk

pub record Fails {D : Type 0} (seen : D → Option (List ℕ)) (moment : D → ℕ) (may_leave : D → ℕ → List ℕ → Type 0) (count : D → ℕ) (job : JobSizes) (old new : Store D) (fault : ReadFault) : Type 0 where
  pub rests : Rests seen moment may_leave job old new
  pub risen : HasRisen (count old.disk) (count new.disk)

-- epochs that the disk tells, or none where it tells nothing
abbrev pub IsSource : {D : Type 0} → (D → Option (List ℕ)) → (D → ℕ) → (D → ℕ → List ℕ → Type 0) → JobSizes → Option Place → Option (List KeptEpoch) → Store D → Type 0
IsSource seen moment may_leave job due None s = Unit {0}
IsSource seen moment may_leave job due (Some kept) s = (id : List ℕ) × Tells seen moment may_leave job id kept due s

-- the head of the plan, and its cells where the disk tells the epochs
abbrev pub head_at : {D : Type 0} → Plan → Store D → Head
head_at plan s = head_of plan

abbrev pub cells_on : {D : Type 0} → Option (List KeptEpoch) → Plan → Store D → Option CellsOf
cells_on kept plan s = option_map (kept_cells plan) kept

-- Where the disk tells the epochs and is read up to a place, the text that their cells make is appended, and some text in any case.
pub record WritesCells {D T : Type 0} (seen : D → Option (List ℕ)) (moment : D → ℕ) (may_leave : D → ℕ → List ℕ → Type 0) (count : D → ℕ)
    (plan : Plan) (job : JobSizes) (due : Option Place) (text : CellsOf → List ℕ) (old new : Store D) (told_old told_new : Option (List ℕ))
    (faults_old faults_new : ℕ) (result : Result T (WriteFault ReadFault)) : Type 0 where
  pub at : (kept : Option (List KeptEpoch)) → IsSource seen moment may_leave job due kept old
      → Writes (head_at plan) (cells_on kept plan) (Stays seen moment may_leave count job) (Fails seen moment may_leave count job)
      text old new told_old told_new faults_old faults_new result
  pub grows : Grows told_old told_new result
