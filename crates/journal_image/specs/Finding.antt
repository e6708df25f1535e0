-- What is found behind an open gate.
use Rattle.std.specs.Prelude.{◌≡◌, ℕ, ◌+◌, ◌<◌, ◌^◌, Bool, List, length, slice_index}
use Rattle.piece_plan.specs.Epochs.{JobSizes, IsJob, IsEpoch, IsOfPlan}
use Rattle.piece_plan.specs.Order.{Place}
use Rattle.plan_places.specs.Places.{IsPlace}
use Rattle.journal_image.specs.declared.difference.Differs.{Differs}
use Rattle.journal_image.specs.declared.finding.Behind.{Behind}
use Rattle.journal_image.specs.declared.finding.Behind.TheVariants.{Record, Mark, Fault}
use Rattle.journal_image.specs.Image.{Thing, Kept, Turn}
use Rattle.journal_image.specs.Difference.{due_at, StandsFirst, IsOfThing}

-- no thing that fits stands at the front of bytes, and this is where they differ
pub record IsFault (job : JobSizes) (ranged : Bool) (p : Place) (bytes : List ℕ) (at len : ℕ) (d : Differs) : Type 0 where
  pub none : (t : Thing) → ¬ StandsFirst job (due_at ranged p) bytes t
  pub place : IsOfThing job ranged p bytes at len d

-- what stands at the front of the bytes from `at` to the file's end, where a record from a place on is due
abbrev pub IsBehind : JobSizes → Bool → Place → List ℕ → ℕ → Behind → Type 0
IsBehind job ranged p bytes at (Record e) = (body : List ℕ) × StandsFirst job (due_at ranged p) bytes (Kept e body)
IsBehind job ranged p bytes at Mark = (mark : List ℕ) × StandsFirst job (due_at ranged p) bytes (Turn mark)
IsBehind job ranged p bytes at (Fault d) = IsFault job ranged p bytes at (at + length bytes) d

-- the epoch of a record that was found
abbrev pub HasEpoch : JobSizes → Behind → Type 0
HasEpoch job (Record e) = IsEpoch job e × IsOfPlan e
HasEpoch job Mark = Unit {0}
HasEpoch job (Fault d) = Unit {0}

-- 28 bytes are the first of these, with zeros past their end
abbrev pub IsFrontOf : List ℕ → List ℕ → Type 0
IsFrontOf head bytes = (k : ℕ) → k < 28 → slice_index head k ≡ slice_index bytes k

-- 28 bytes behind an open gate at `at`, where a record from a place of a job on is due and so many bytes are left
pub record IsOpen (sizes : JobSizes) (p : Place) (first : List ℕ) (at left : ℕ) : Type 0 where
  pub head : length first ≡ 28
  pub job : IsJob sizes
  pub place : IsPlace sizes p
  pub short : at + left < 2 ^ 63

-- what is found is what stands at the front of any so many bytes of which these are the first
abbrev pub IsReadAs : JobSizes → Bool → Place → List ℕ → ℕ → ℕ → Behind → Type 0
IsReadAs job ranged p head left at found = (bytes : List ℕ) → length bytes ≡ left → IsFrontOf head bytes → IsBehind job ranged p bytes at found
