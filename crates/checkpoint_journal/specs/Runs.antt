-- What a run of calls on a disk does to a journal's file.
use Rattle.std.specs.Prelude.{◌≡◌, ◌≢◌, ◌⊎◌, ℕ, ◌+◌, ◌≤◌, true, List, [], ◌∷◌, ◌++◌, length, take, drop, slice_index, Option, None, Some}
use Rattle.dev_traits.specs.Told.{WhereTold}
use Rattle.dev_traits.specs.Images.{Same}
use Rattle.dev_traits.specs.Moments.{Runs}
use Rattle.piece_plan.specs.Epochs.{JobSizes}
use Rattle.journal_image.specs.Image.{is_blank, Thing, text, Fits, KeptEpoch, Reading, Reads, Keeps, more, gate_of}

-- Nothing is written: a read gives what it gave, and no image comes anew.
pub record Looks {D : Type 0} (seen : D → Option (List ℕ)) (moment : D → ℕ) (may_leave : D → ℕ → List ℕ → Type 0) (old new : D) : Type 0 where
  pub same : seen new ≡ seen old
  pub runs : Runs moment may_leave Same old new

-- a step from what a read gave to what it gives, where the disk tells it
abbrev pub StepTold : (List ℕ → List ℕ → Type 0) → Option (List ℕ) → Option (List ℕ) → Type 0
StepTold step None None = Unit {0}
StepTold step None (Some image) = ⊥
StepTold step (Some v) None = ⊥
StepTold step (Some v) (Some image) = step v image

-- Each image of the run comes by such a step from one of each moment before, and what a read gives from what it gave.
pub record Changes {D : Type 0} (seen : D → Option (List ℕ)) (moment : D → ℕ) (may_leave : D → ℕ → List ℕ → Type 0) (step : List ℕ → List ℕ → Type 0) (old new : D) : Type 0 where
  pub read : StepTold step (seen old) (seen new)
  pub runs : Runs moment may_leave step old new

-- the first n bytes stay where they are, as far as there are so many
abbrev pub KeepsFront : ℕ → List ℕ → List ℕ → Type 0
KeepsFront n v image = n ≤ length v → (n ≤ length image) × (take n image ≡ take n v)

-- a blank image stays blank
abbrev pub KeepsBlank : List ℕ → List ℕ → Type 0
KeepsBlank v image = is_blank v ≡ true → is_blank image ≡ true

-- a head gate that is closed, and nothing behind it
pub record IsClosedHead (image : List ℕ) : Type 0 where
  pub alone : length image ≡ 1
  pub closed : slice_index image 0 ≢ 1

-- these bytes from a place on, in place of those that stood there
abbrev pub put_over : ℕ → List ℕ → List ℕ → List ℕ
put_over at bytes v = take at v ++ (bytes ++ drop (at + length bytes) v)

-- an image that keeps just what the one before it kept; one that says nothing comes from such a one alone
abbrev pub KeepsEpochs : List ℕ → JobSizes → List ℕ → List ℕ → Type 0
KeepsEpochs id job v image = (kept : List KeptEpoch) → (Keeps id job v kept → Keeps id job image kept) × (Keeps id job image kept → Keeps id job v kept)

-- k epochs, and then this one more
pub record OneMore (id : List ℕ) (job : JobSizes) (k : ℕ) (one : KeptEpoch) (v image : List ℕ) : Type 0 where
  pub old : List KeptEpoch
  pub many : length old ≡ k
  pub before : Keeps id job v old
  pub after : Keeps id job image (old ++ one ∷ [])

-- an image that keeps what the one before it kept, or k epochs that it kept and this one more
abbrev pub AddsEpoch : List ℕ → JobSizes → ℕ → KeptEpoch → List ℕ → List ℕ → Type 0
AddsEpoch id job k one v image = KeepsEpochs id job v image ⊎ OneMore id job k one v image

-- an image that is blank or of this job's form
abbrev pub IsOurs : List ℕ → JobSizes → List ℕ → Type 0
IsOurs id job image = (kept : List KeptEpoch) × Keeps id job image kept

-- A file that is neither blank nor of the job's form is spared: nothing is written to it.
abbrev pub Spares : {D : Type 0} → (D → Option (List ℕ)) → (D → ℕ) → (D → ℕ → List ℕ → Type 0) → List ℕ → JobSizes → D → D → Type 0
Spares seen moment may_leave id job old new = Looks seen moment may_leave old new ⊎ WhereTold (seen old) (IsOurs id job)

-- The image that a thing is written to: this is what it says, at this place stands the gate that ends it, and this thing
-- with these bytes is due.
pub record IsDue (id : List ℕ) (job : JobSizes) (r : Reading) (t : Thing) (gate : ℕ) (bytes image : List ℕ) : Type 0 where
  pub reads : Reads id job image r
  pub fits : Fits job r.due t
  pub place : gate ≡ gate_of id job r
  pub is : bytes ≡ text r.due t

-- an image that says what the one before it said, or that and this thing; what was there stays
abbrev pub Adds : List ℕ → JobSizes → Reading → Thing → List ℕ → List ℕ → Type 0
Adds id job r t v image = (Reads id job v r → Reads id job image r ⊎ Reads id job image (more job r t)) × (Reads id job v (more job r t) → Reads id job image (more job r t))
