-- The moments of a disk. They are numbered, several may lie within one call, and `may_leave d t image`
-- says that a crash at the moment `t` may leave that image of the file.
use Rattle.std.specs.Prelude.{◌≡◌, ℕ, ◌<◌, ◌≤◌, List, Option, Some}

-- What one call does. The moments before it keep their images, and each image of a moment in it comes
-- by `step` from an image of the moment before the call. Within the call no image comes anew: those of
-- a later moment are among those of an earlier one.
pub record Goes {D : Type 0} (moment : D → ℕ) (may_leave : D → ℕ → List ℕ → Type 0) (step : List ℕ → List ℕ → Type 0) (old new : D) : Type 0 where
  pub later : moment old ≤ moment new
  pub past : (t : ℕ) (image : List ℕ) → t ≤ moment old → may_leave new t image → may_leave old t image
  pub kept : (t : ℕ) (image : List ℕ) → t ≤ moment old → may_leave old t image → may_leave new t image
  pub each : (t : ℕ) (image : List ℕ) → moment old < t → t ≤ moment new → may_leave new t image → (v : List ℕ) × may_leave old (moment old) v × step v image
  pub narrows : (t t' : ℕ) (image : List ℕ) → moment old < t → t ≤ t' → t' ≤ moment new → may_leave new t' image → may_leave new t image

-- A crash leaves what a read gives, and nothing else.
abbrev pub IsDurable : Option (List ℕ) → (List ℕ → Type 0) → Type 0
IsDurable seen images = (image : List ℕ) → images image → seen ≡ Some image

-- What a run of calls does. The moments before it keep their images, and of two moments in the run each
-- image of the later one comes by `step` from an image of the earlier one, `step` being a relation that
-- leads from each image to itself and goes on over any number of steps.
pub record Runs {D : Type 0} (moment : D → ℕ) (may_leave : D → ℕ → List ℕ → Type 0) (step : List ℕ → List ℕ → Type 0) (old new : D) : Type 0 where
  pub later : moment old ≤ moment new
  pub past : (t : ℕ) (image : List ℕ) → t ≤ moment old → may_leave new t image → may_leave old t image
  pub kept : (t : ℕ) (image : List ℕ) → t ≤ moment old → may_leave old t image → may_leave new t image
  pub comes : (t t' : ℕ) (image : List ℕ) → moment old ≤ t → t ≤ t' → t' ≤ moment new → may_leave new t' image → (v : List ℕ) × may_leave new t v × step v image

-- each of these images counts `n` at least
abbrev pub AtLeast : (List ℕ → ℕ) → (List ℕ → Type 0) → ℕ → Type 0
AtLeast count images n = (image : List ℕ) → images image → n ≤ count image

-- Over a run of calls no count falls: what each image of a moment counts at least, each image of every
-- later moment counts.
abbrev pub NeverFalls : {D : Type 0} → (D → ℕ) → (D → ℕ → List ℕ → Type 0) → (List ℕ → ℕ) → D → D → Type 0
NeverFalls moment may_leave count old new = (t t' n : ℕ) → moment old ≤ t → t ≤ t' → t' ≤ moment new → AtLeast count (may_leave new t) n → AtLeast count (may_leave new t') n

-- a relation that goes on over any number of calls
pub record GoesOn {D : Type 0} (stays : D → D → Type 0) : Type 0 where
  pub none : (disk : D) → stays disk disk
  pub both : (old mid new : D) → stays old mid → stays mid new → stays old new
