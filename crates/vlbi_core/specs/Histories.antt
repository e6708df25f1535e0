-- Calls that sum one after another, each of which ends in its answer or in a crash.
use Rattle.std.specs.Prelude.{◌≡◌, ◌⊎◌, ⊤, ℕ, ◌<◌, ◌≤◌, true, List, [], ◌∷◌, slice_get, Option, Some, is_some, Ok}
use Rattle.dev_traits.specs.Told.{more, WhereTold}
use Rattle.corr_model.specs.Files.{Files}
use Rattle.journal_image.specs.Image.{is_blank, KeptEpoch}
use Rattle.vlbi_core.specs.Calls.{Call, OfJob, OutcomeOf, end_text, KeepsFor, KeepsAll}
use Rattle.vlbi_core.specs.Restart.{IsHonest, AllKeep, Restarts, AppendsOutput}

-- These words come to this call, which sums.
pub record IsRunBy (files : Files) (words : List (List ℕ)) (call : Call) : Type 0 where
  pub outcome : OutcomeOf words files (Ok (OfJob call))
  pub run : call.sums ≡ true

-- Calls for one job, or for one part of it: they name one job text and one schedule, or none, and one part, or none. The samples of an
-- epoch, the workers, the piece and the order of the options may differ.
pub record IsSameJob (a b : Call) : Type 0 where
  pub job : a.job ≡ b.job
  pub vex : a.vex ≡ b.vex
  pub part : a.part ≡ b.part

-- How a call ended: in its answer, or in a crash at one of its moments, of which this image is left.
pub data End : Type 0 where
  Answered : End
  Crashed : ℕ → List ℕ → End

-- A call in a history: its words and what they come to, its status, the journal's disk before it and after it, what the output told
-- before it and after it, and how it ended. The status and what the output told are those that the call gives where it ends in its answer.
pub record Step (D : Type 0) : Type 0 where
  pub words : List (List ℕ)
  pub call : Call
  pub status : ℕ
  pub old : D
  pub new : D
  pub told_old : Option (List ℕ)
  pub told_new : Option (List ℕ)
  pub end : End

module _ {D : Type 0} (seen : D → Option (List ℕ)) (moment : D → ℕ) (may_leave : D → ℕ → List ℕ → Type 0) where
  -- the last moment of a call that ended so
  abbrev pub stop : End → D → ℕ
  stop Answered new = moment new
  stop (Crashed t left) new = t

  -- the images that it leaves: those of its last moment, or the one that a crash left
  abbrev pub Left : End → D → List ℕ → Type 0
  Left Answered new image = may_leave new (moment new) image
  Left (Crashed t left) new image = image ≡ left

  -- a crash comes at a moment of the call, and leaves one of that moment's images
  abbrev pub IsEnd : End → D → D → Type 0
  IsEnd Answered old new = ⊤
  IsEnd (Crashed t left) old new = (moment old ≤ t) × ((t ≤ moment new) × may_leave new t left)

  -- A call that sums for the job of another one: it begins on these images, on a disk that tells its content; what it leaves and
  -- appends is what the contract of `run` says.
  pub record IsStep (files : Files) (job : Call) (images : List ℕ → Type 0) (step : Step D) : Type 0 where
    pub runs : IsRunBy files step.words step.call
    pub same : IsSameJob job step.call
    pub tells : is_some (seen step.old) ≡ true
    pub begins : (image : List ℕ) → may_leave step.old (moment step.old) image → images image
    pub restart : Restarts (OutcomeOf step.words files) files step.status moment may_leave step.old step.new
    pub headline : WhereTold (seen step.old) (λ image. AppendsOutput (OutcomeOf step.words files) files
        (may_leave step.old (moment step.old)) step.status step.told_old step.told_new)
    pub ends : IsEnd step.end step.old step.new

  -- Calls one after another, the first of which begins on these images, and each further one on those that the one before it left.
  abbrev pub IsHistory : Files → Call → (List ℕ → Type 0) → List (Step D) → Type 0
  IsHistory files job images [] = ⊤
  IsHistory files job images (step ∷ later) = IsStep files job images step × IsHistory files job (Left step.end step.new) later

  -- The second of two calls of a history is the later one, or they are one call and the second of the moments is not the earlier one.
  -- What comes behind the end of a call is no moment of the history.
  abbrev pub IsLater : ℕ → Step D → ℕ → ℕ → ℕ → Type 0
  IsLater i step t j t' = ((i < j) × (t ≤ stop step.end step.new)) ⊎ ((i ≡ j) × (t ≤ t'))

  -- What holds over a history: each image of each moment of each call is honest; what every image of a moment keeps, every image of
  -- every later moment keeps, across crashes; and a call with status 0 has appended exactly the record file of the direct sums, or the line of
  -- its part, and leaves epochs that cover the job or the part in each image.
  pub record Holds (files : Files) (job : Call) (steps : List (Step D)) : Type 0 where
    pub honest : (i : ℕ) (step : Step D) → slice_get steps i ≡ Some step
        → (t : ℕ) (image : List ℕ) → moment step.old ≤ t → t ≤ moment step.new → may_leave step.new t image → IsHonest files job image
    pub kept : (i j : ℕ) (a b : Step D) → slice_get steps i ≡ Some a → slice_get steps j ≡ Some b
        → (t t' n : ℕ) → moment a.old ≤ t → t ≤ moment a.new → moment b.old ≤ t' → t' ≤ moment b.new → IsLater i a t j t'
        → AllKeep files job (may_leave a.new t) n → AllKeep files job (may_leave b.new t') n
    pub output : (i : ℕ) (step : Step D) → slice_get steps i ≡ Some step → step.status ≡ 0
        → step.told_new ≡ more step.told_old (end_text files job)
    pub all : (i : ℕ) (step : Step D) → slice_get steps i ≡ Some step → step.status ≡ 0
        → (image : List ℕ) → may_leave step.new (moment step.new) image → KeepsAll files job image

  -- Over any history of a job that begins on a journal each image of which is blank or honest.
  abbrev pub HoldsOver : Type 0
  HoldsOver =
      (files : Files) (words : List (List ℕ)) (job : Call) → IsRunBy files words job
      → (first : Step D) → ((image : List ℕ) → may_leave first.old (moment first.old) image → (is_blank image ≡ true) ⊎ IsHonest files job image)
      → (later : List (Step D)) → IsHistory files job (may_leave first.old (moment first.old)) (first ∷ later) → Holds files job (first ∷ later)

-- Honesty, what is kept and the records do not depend on the samples of an epoch, the workers, the piece or the order of the options.
pub record AreAlike (files : Files) (a b : Call) : Type 0 where
  pub honest : (image : List ℕ) → IsHonest files a image → IsHonest files b image
  pub kept : (image : List ℕ) (kept : List KeptEpoch) → KeepsFor files a image kept → KeepsFor files b image kept
  pub plan : a.plan ≡ b.plan

abbrev pub AlikeByJob : Type 0
AlikeByJob =
    (files : Files) (first second : List (List ℕ)) (a b : Call) → IsRunBy files first a → IsRunBy files second b → IsSameJob a b
    → AreAlike files a b
