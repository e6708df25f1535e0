-- What a journal knows of its file, and when it stands on a disk.
use Rattle.std.specs.Prelude.{◌≡◌, ◌≢◌, ℕ, ◌+◌, ◌<◌, ◌≤◌, Bool, true, false, List, ◌++◌, length, option_map, Option, Some, None}
use Rattle.dev_traits.specs.Told.{WhereTold}
use Rattle.dev_traits.specs.Moments.{IsDurable}
use Rattle.piece_plan.specs.declared.epoch.EpochPlan.{EpochPlan}
use Rattle.piece_plan.specs.Epochs.{JobSizes, IsJob, IsEpoch, IsOfPlan}
use Rattle.piece_plan.specs.Order.{place_of, place_after}
use Rattle.plan_places.specs.Places.{place_at}
use Rattle.journal_image.specs.Image.{Thing, ThingsGo, things_text, records, IsIdentity, start, Reading, Reads}
use Rattle.checkpoint_journal.specs.declared.finding.Found.{Found}
use Rattle.checkpoint_journal.specs.Finding.{due_of, HasPlace, IsEnd}

-- Three gates of the file: the first one, the one behind the last record, and the one behind the record that was read last;
-- and whether a call has failed.
pub record JournalState : Type 0 where
  pub first : Found
  pub end : Found
  pub here : Found
  pub failed : Bool

abbrev pub journal_state : Found → Found → Found → Bool → JournalState
journal_state first end here failed = record { first = first; end = end; here = here; failed = failed }

-- the gate behind the identity: no record stands before it, and the job's first place is due
pub record IsFirst (id : List ℕ) (job : JobSizes) (f : Found) : Type 0 where
  pub kept : f.kept ≡ 0
  pub gate : f.gate ≡ 1 + length id
  pub due : due_of f ≡ start job f.old

-- a gate of what an image says: the things before it, from the front, and what is due there
pub record IsGate (id : List ℕ) (job : JobSizes) (r : Reading) (f : Found) : Type 0 where
  pub before : List Thing
  pub after : List Thing
  pub is : r.things ≡ before ++ after
  pub goes : ThingsGo job (start job r.old) before (due_of f)
  pub old : f.old ≡ r.old
  pub kept : f.kept ≡ length (records before)
  pub gate : f.gate ≡ 1 + length id + length (things_text job (start job r.old) before)

-- what an image says, as the journal knows it
pub record Knows (id : List ℕ) (job : JobSizes) (j : JournalState) (image : List ℕ) : Type 0 where
  pub reading : Reading
  pub reads : Reads id job image reading
  pub end : IsEnd id job reading j.end
  pub here : IsGate id job reading j.here

-- The journal of the job with this identity has not failed. Unless it covers the job, a record behind its last gate carries
-- its range. Where the disk tells its content, its one image says what the journal knows.
pub record Stands (id : List ℕ) (job : JobSizes) (j : JournalState) (seen : Option (List ℕ)) (images : List ℕ → Type 0) : Type 0 where
  pub sound : j.failed ≡ false
  pub named : IsIdentity id
  pub plan : IsJob job
  pub first : IsFirst id job j.first
  pub version : j.first.old ≡ j.end.old
  pub places : HasPlace job j.first × (HasPlace job j.end × HasPlace job j.here)
  pub turned : j.end.next ≢ None → j.end.ranged ≡ true
  pub within : j.here.kept ≤ j.end.kept
  pub before : j.here.gate ≤ j.end.gate
  pub image : WhereTold seen (Knows id job j)
  pub durable : IsDurable seen images

-- it stands where a crash leaves just what a read gives
abbrev pub StandsAtRest : List ℕ → JobSizes → JournalState → Option (List ℕ) → Type 0
StandsAtRest id job j seen = Stands id job j seen (λ image. seen ≡ Some image)

-- it stands on the disk for some identity, the one that stands in the image
abbrev pub StandsOn : JobSizes → JournalState → Option (List ℕ) → (List ℕ → Type 0) → Type 0
StandsOn job j seen images = (id : List ℕ) × Stands id job j seen images

-- Behind an epoch that was read stands the next one: it begins at the place that was due, and behind it the place after it is
-- due.
pub record IsRead (job : JobSizes) (old new : JournalState) (e : EpochPlan) : Type 0 where
  pub epoch : IsEpoch job e
  pub of_plan : IsOfPlan e
  pub more : old.here.kept < old.end.kept
  pub begins : option_map place_at old.here.next ≡ Some (place_of e)
  pub next : option_map place_at new.here.next ≡ place_after job e
  pub kept : new.here.kept ≡ old.here.kept + 1
  pub same : new ≡ record old { here = new.here }

-- the journal behind a read of the next epoch, and as it was where there is none
abbrev pub IsNext : JobSizes → JournalState → JournalState → Option EpochPlan → Type 0
IsNext job old new None = new ≡ old
IsNext job old new (Some e) = IsRead job old new e
