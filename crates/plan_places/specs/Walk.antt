-- The walk through a job from a place on: epochs cut one after another, each as long as it may be.
use Rattle.std.specs.Prelude.{◌≡◌, ℕ, ◌+◌, ◌^◌, ◌<◌, ◌≤◌, min, length, List, [], ◌∷◌, slice_get, Option, Some, None}
use Rattle.piece_plan.specs.declared.job.ScanSize.{ScanSize}
use Rattle.piece_plan.specs.declared.epoch.EpochPlan.{EpochPlan}
use Rattle.piece_plan.specs.Epochs.{JobSizes, epochs_of, integration_at, range_of}
use Rattle.piece_plan.specs.Order.{Place, place_after}
use Rattle.plan_places.specs.Search.{begin_at, BeginsAt}

abbrev pub cut_in : JobSizes → Place → ℕ → Option ScanSize → Option EpochPlan
cut_in job p epoch None = None
cut_in job p epoch (Some size) =
    Some (range_of job p.scan size p.m (record { from = p.from; to = min (p.from + epoch) (integration_at job size p.m).to }))

-- the epoch from a place on: so many samples, or those up to the end of the place's integration where these are fewer
unfoldable pub cut_at : JobSizes → ℕ → Place → Option EpochPlan
cut_at job epoch p = cut_in job p epoch (slice_get job.scans p.scan)

-- the same where a walk stands; none at its end
abbrev pub next_epoch : JobSizes → ℕ → Option Place → Option EpochPlan
next_epoch job epoch None = None
next_epoch job epoch (Some p) = cut_at job epoch p

-- The epochs of a walk: the first is the one from where the walk stands on, each next one that from the place after
-- the epoch before it, until there is none.
abbrev pub IsWalk : JobSizes → ℕ → Option Place → List EpochPlan → Type 0
IsWalk job epoch due [] = due ≡ None
IsWalk job epoch due (e ∷ epochs) =
    (next_epoch job epoch due ≡ Some e) × IsWalk job epoch (place_after job e) epochs

-- the epochs of a whole job, where each is cut with so many samples
abbrev pub epochs_by : JobSizes → ℕ → List EpochPlan
epochs_by job epoch = epochs_of (record job { epoch = epoch })

-- so many epochs are left where a walk stands
pub record AreLeft (job : JobSizes) (epoch : ℕ) (due : Option Place) (count : ℕ) : Type 0 where
  pub epochs : List EpochPlan
  pub walk : IsWalk job epoch due epochs
  pub many : count ≡ length epochs

-- From epoch i of the job, which begins an integration, a walk has so many epochs up to its scan's end, and goes on
-- where epoch `next` of the job begins, in a later scan.
pub record IsScanLeft (job : JobSizes) (epoch i next count : ℕ) : Type 0 where
  pub after : i < next
  pub within : next ≤ length (epochs_of job)
  pub begin : BeginsAt job next
  pub scans : (d e : EpochPlan) → slice_get (epochs_of job) i ≡ Some d → slice_get (epochs_of job) next ≡ Some e → d.scan < e.scan
  pub few : count ≤ 2 ^ 40
  pub walk : (epochs : List EpochPlan) → IsWalk job epoch (begin_at (epochs_of job) i) epochs
      → (rest : List EpochPlan) × IsWalk job epoch (begin_at (epochs_of job) next) rest × (length epochs ≡ count + length rest)
