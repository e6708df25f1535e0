-- The next record behind a gate of a journal, as a read goes to it.
use Rattle.std.specs.Prelude.{◌≡◌, ℕ, ◌+◌, ◌<◌, ◌≤◌, ◌^◌, Bool, if◌then◌else◌, List, ◌∷◌, length, take, slice_get, Some, option_map}
use Rattle.corr_model.specs.declared.cell.Cell.{Cell}
use Rattle.piece_plan.specs.declared.epoch.EpochPlan.{EpochPlan}
use Rattle.piece_plan.specs.Epochs.{JobSizes, IsJob, IsEpoch, IsOfPlan, cell_count}
use Rattle.piece_plan.specs.Order.{Place, place_of, place_after}
use Rattle.plan_places.specs.declared.place.Place.{Place as Spot}
use Rattle.plan_places.specs.Places.{place_at, IsPlace}
use Rattle.checkpoint_journal.specs.Cells.{body_cells}
use Rattle.journal_image.specs.declared.finding.Behind.{Behind}
use Rattle.journal_image.specs.declared.finding.Behind.TheVariants.{Record, Mark, Fault}
use Rattle.journal_image.specs.Image.{Thing, Kept, Turn, records, Reading, Reads, gate_of}
use Rattle.checkpoint_journal.specs.declared.finding.Found.{Found}
use Rattle.checkpoint_journal.specs.Finding.{HasPlace}
use Rattle.checkpoint_journal.specs.Standing.{IsGate}

-- an image says this, and behind one of its gates there is at least one record more
pub record HasMore (id : List ℕ) (job : JobSizes) (image : List ℕ) (r : Reading) (f : Found) : Type 0 where
  pub reads : Reads id job image r
  pub gate : IsGate id job r f
  pub more : f.kept < length (records r.things)

-- a gate of a journal at which this place is due, where the journal's last gate stands at byte `last` and a record is still to come
pub record IsBeforeNext (job : JobSizes) (f : Found) (p : Spot) (last : ℕ) : Type 0 where
  pub plan : IsJob job
  pub place : IsPlace job (place_at p)
  pub due : f.next ≡ Some p
  pub many : f.kept ≤ f.gate
  pub before : f.gate ≤ last
  pub more : f.kept < last
  pub short : last < 2 ^ 63

-- directly behind a gate stands the record of this epoch
pub record IsRecord (id : List ℕ) (job : JobSizes) (r : Reading) (f : Found) (e : EpochPlan) : Type 0 where
  pub gate : IsGate id job r f
  pub body : List ℕ
  pub more : List Thing
  pub is : gate.after ≡ Kept e body ∷ more

-- or a mark does
pub record IsMark (id : List ℕ) (job : JobSizes) (r : Reading) (f : Found) : Type 0 where
  pub gate : IsGate id job r f
  pub mark : List ℕ
  pub more : List Thing
  pub is : gate.after ≡ Turn mark ∷ more

-- what was found directly behind a gate is what the image says
abbrev pub IsThing : List ℕ → JobSizes → Reading → Found → Behind → Type 0
IsThing id job r f (Record e) = IsRecord id job r f e
IsThing id job r f Mark = IsMark id job r f
IsThing id job r f (Fault d) = ⊥

-- so it is, whatever the image says, where it has a record there
abbrev pub TellsThing : JobSizes → List ℕ → Found → Behind → Type 0
TellsThing job image f b = (id : List ℕ) (r : Reading) → HasMore id job image r f → IsThing id job r f b

-- the epoch that was found, where it begins at this place
abbrev pub IsEpochOf : Behind → Place → EpochPlan → Type 0
IsEpochOf (Record f) p e = place_of f ≡ p → e ≡ f
IsEpochOf Mark p e = Unit {0}
IsEpochOf (Fault d) p e = Unit {0}

-- an epoch of the job that begins at a place
pub record IsFrom (job : JobSizes) (p : Place) (e : EpochPlan) : Type 0 where
  pub epoch : IsEpoch job e
  pub of_plan : IsOfPlan e
  pub begins : place_of e ≡ p

-- a gate with as many epochs before it as one before it has, and the same place due, no further than byte `last`
pub record IsBeside (last : ℕ) (f g : Found) : Type 0 where
  pub kept : g.kept ≡ f.kept
  pub next : g.next ≡ f.next
  pub after : f.gate ≤ g.gate
  pub within : g.gate ≤ last

-- behind a gate, or the mark that stands there, stands the record of this epoch
abbrev pub TellsRecord : JobSizes → List ℕ → Found → ℕ → Found → EpochPlan → Type 0
TellsRecord job image f last g e = (id : List ℕ) (r : Reading) → HasMore id job image r f → last ≡ gate_of id job r → IsRecord id job r g e

-- the gate behind a record of an epoch, no further than byte `last`
pub record IsPast (job : JobSizes) (last : ℕ) (f : Found) (e : EpochPlan) (g : Found) : Type 0 where
  pub place : HasPlace job g
  pub kept : g.kept ≡ f.kept + 1
  pub next : option_map place_at g.next ≡ place_after job e
  pub within : g.gate ≤ last

-- The record of this epoch is the next one behind a gate. A later gate stands directly behind it, and these are its cells.
pub record IsReadBehind (id : List ℕ) (job : JobSizes) (r : Reading) (f : Found) (e : EpochPlan) (g : Found) (cells : List Cell) : Type 0 where
  pub gate : IsGate id job r g
  pub body : List ℕ
  pub at : slice_get (records r.things) f.kept ≡ Some (record { epoch = e; body = body })
  pub cells_are : take (cell_count e) cells ≡ body_cells body

abbrev pub TellsRead : JobSizes → List ℕ → Found → ℕ → EpochPlan → Found → List Cell → Type 0
TellsRead job image f last e g cells = (id : List ℕ) (r : Reading) → HasMore id job image r f → last ≡ gate_of id job r → IsReadBehind id job r f e g cells

-- the bytes of a gate and of the head behind it, which a record without a range lacks
abbrev pub before_body : Bool → ℕ
before_body ranged = if ranged then 29 else 1
