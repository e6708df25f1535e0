-- How a file departs from the form of a job's journal, and at which byte it does so first.
use Rattle.std.specs.Prelude.{◌≡◌, ◌≢◌, ◌⊎◌, ℕ, ◌+◌, ◌<◌, ◌≤◌, Bool, true, List, ◌∷◌, ◌++◌, length, take, drop, slice_get, slice_index, Some, None}
use Rattle.byteorder.specs.Endian.{little_from}
use Rattle.piece_plan.specs.declared.epoch.EpochPlan.{EpochPlan}
use Rattle.piece_plan.specs.Epochs.{JobSizes, IsEpoch}
use Rattle.piece_plan.specs.Order.{Place, place_of}
use Rattle.journal_image.specs.declared.difference.Differs.{Differs}
use Rattle.journal_image.specs.Head.{place_text}
use Rattle.journal_image.specs.Image.{Due, Thing, text, Fits, ThingsGo, things_text, records, MayBeOld, begin, start}

-- an epoch of the job from a place up to this sample
pub record IsRange (job : JobSizes) (p : Place) (to : ℕ) (e : EpochPlan) : Type 0 where
  pub begins : place_of e ≡ p
  pub ends : e.to ≡ to
  pub fits : IsEpoch job e

abbrev pub due_at : Bool → Place → Due
due_at ranged p = record { ranged = ranged; place = Some p }

-- a thing that fits stands at the front of bytes
pub record StandsFirst (job : JobSizes) (due : Due) (bytes : List ℕ) (t : Thing) : Type 0 where
  pub fits : Fits job due t
  pub tail : List ℕ
  pub is : bytes ≡ text due t ++ tail

-- the byte at a place of the front is this job's; for the version an old journal's is too
abbrev pub IsOurs : List ℕ → List ℕ → ℕ → Type 0
IsOurs id image k = (slice_get image k ≡ slice_get (1 ∷ id) k) ⊎ ((k ≡ 8) × (slice_get image k ≡ Some 49))

-- the first byte of the front that is not, or that lies past the file's end
pub record IsOfFront (id image : List ℕ) (d : Differs) : Type 0 where
  pub inside : d.at < length (1 ∷ id)
  pub same : (k : ℕ) → k < d.at → IsOurs id image k
  pub other : IsOurs id image d.at → ⊥
  pub kept : d.kept ≡ slice_get image d.at
  pub ours : d.ours ≡ slice_get (1 ∷ id) d.at

-- An image up to a gate: things that fit stand before it, so many of them records, and this is due behind it.
pub record IsReadTo (id : List ℕ) (job : JobSizes) (image : List ℕ) (old : Bool) (due : Due) (kept at : ℕ) : Type 0 where
  pub version : MayBeOld id old
  pub things : List Thing
  pub goes : ThingsGo job (start job old) things due
  pub many : kept ≡ length (records things)
  pub place : at ≡ 1 + length id + length (things_text job (start job old) things)
  pub front : take at image ≡ begin id old ++ things_text job (start job old) things

-- the end of a file of this length: it has no byte there, and none is due
abbrev pub end_of : ℕ → Differs
end_of len = record { at = len; kept = None; ours = None }

-- In the bytes behind an open gate, which stand from `at` on, the first byte that is not the due place's: in the number
-- of the scan, in that of the integration, or in the sample.
pub record IsOfPlace (p : Place) (bytes : List ℕ) (at : ℕ) (d : Differs) : Type 0 where
  pub k : ℕ
  pub inside : k < 20
  pub there : k < length bytes
  pub same : take k bytes ≡ take k (place_text p)
  pub other : slice_index bytes k ≢ slice_index (place_text p) k
  pub is : d ≡ record { at = at + k; kept = Some (slice_index bytes k); ours = Some (slice_index (place_text p) k) }

-- The due place stands there, and behind it an end with which no epoch of the job goes. The fault is its first byte.
pub record IsOfEnd (job : JobSizes) (p : Place) (bytes : List ℕ) (at : ℕ) (d : Differs) : Type 0 where
  pub there : 28 ≤ length bytes
  pub same : take 20 bytes ≡ place_text p
  pub unfit : (e : EpochPlan) → ¬ IsRange job p (little_from 20 8 bytes) e
  pub is : d ≡ record { at = at + 20; kept = Some (slice_index bytes 20); ours = None }

-- as far as there are bytes they are those of the due place, and an end with which an epoch of the job goes
pub record IsRangeBegun (job : JobSizes) (p : Place) (bytes : List ℕ) : Type 0 where
  pub same : take 20 bytes ≡ take (length bytes) (place_text p)
  pub fits : 28 ≤ length bytes → (e : EpochPlan) × IsRange job p (little_from 20 8 bytes) e

-- The file ends before what is due does: what there is of a range is right, and no thing that fits stands there whole.
pub record IsCutShort (job : JobSizes) (ranged : Bool) (p : Place) (bytes : List ℕ) (len : ℕ) (d : Differs) : Type 0 where
  pub begun : ranged ≡ true → IsRangeBegun job p bytes
  pub short : (t : Thing) → ¬ StandsFirst job (due_at ranged p) bytes t
  pub is : d ≡ end_of len

abbrev pub IsOfThing : JobSizes → Bool → Place → List ℕ → ℕ → ℕ → Differs → Type 0
IsOfThing job ranged p bytes at len d =
    ((ranged ≡ true) × (IsOfPlace p bytes at d ⊎ IsOfEnd job p bytes at d)) ⊎ IsCutShort job ranged p bytes len d

-- Behind the gates that could be read the file ends where a gate is due, or the fault stands behind an open one.
pub record IsOfRow (id : List ℕ) (job : JobSizes) (image : List ℕ) (d : Differs) : Type 0 where
  pub old : Bool
  pub due : Due
  pub kept : ℕ
  pub at : ℕ
  pub read : IsReadTo id job image old due kept at
  pub fault : ((at ≡ length image) × (d ≡ end_of (length image)))
      ⊎ ((p : Place) × (due.place ≡ Some p) × (slice_index image at ≡ 1) × IsOfThing job due.ranged p (drop (at + 1) image) (at + 1) (length image) d)

abbrev pub IsDifference : List ℕ → JobSizes → List ℕ → Differs → Type 0
IsDifference id job image d = IsOfFront id image d ⊎ IsOfRow id job image d
