-- Where a place stands among epochs that are in order.
use Rattle.std.specs.Prelude.{◌≡◌, ℕ, ◌*◌, ◌<◌, ◌≤◌, List, length, option_map, slice_get, Option, Some}
use Rattle.piece_plan.specs.declared.epoch.EpochPlan.{EpochPlan}
use Rattle.piece_plan.specs.Epochs.{JobSizes, epochs_of, integration_at, IsEpoch}
use Rattle.piece_plan.specs.Order.{Place, place_of}
use Rattle.plan_places.specs.Places.{IsUpTo, IsBefore}

-- where epoch i begins; none behind the last one
abbrev pub begin_at : List EpochPlan → ℕ → Option Place
begin_at epochs i = option_map place_of (slice_get epochs i)

-- a place that is not before an epoch's begin is in the epoch
pub record IsIn (p : Place) (e : EpochPlan) : Type 0 where
  pub scan : e.scan ≡ p.scan
  pub m : e.m ≡ p.m
  pub to : p.from < e.to

-- so many epochs begin at a place or before it
pub record IsCount (epochs : List EpochPlan) (p : Place) (count : ℕ) : Type 0 where
  pub within : count ≤ length epochs
  pub up_to : (k : ℕ) (e : EpochPlan) → k < count → slice_get epochs k ≡ Some e → IsUpTo (place_of e) p
  pub above : (k : ℕ) (e : EpochPlan) → count ≤ k → slice_get epochs k ≡ Some e → IsBefore p (place_of e)

-- the last epoch in a place's integration
pub record EndsIntegration (job : JobSizes) (p : Place) (e : EpochPlan) : Type 0 where
  pub is : IsEpoch job e
  pub scan : e.scan ≡ p.scan
  pub m : e.m ≡ p.m
  pub to : e.to ≡ (integration_at job is.size p.m).to

-- the last epoch in a place's scan
pub record EndsScan (job : JobSizes) (p : Place) (e : EpochPlan) : Type 0 where
  pub is : IsEpoch job e
  pub scan : e.scan ≡ p.scan
  pub to : e.to ≡ is.size.samples

-- the epoch of the job with this number, if there is one, is the first of its integration
abbrev pub BeginsAt : JobSizes → ℕ → Type 0
BeginsAt job i = (e : EpochPlan) → slice_get (epochs_of job) i ≡ Some e → e.from ≡ e.m * job.integration
