-- The epochs of the rest of a job, one behind another.
use Rattle.std.specs.Prelude.{◌≡◌, ⊤, ℕ, Option, None, Some}
use Rattle.piece_plan.specs.declared.epoch.EpochPlan.{EpochPlan}
use Rattle.piece_plan.specs.Epochs.{JobSizes, IsEpoch}
use Rattle.piece_plan.specs.Order.{Place, place_of, place_after}
use Rattle.plan_places.specs.Walk.{next_epoch}

-- an epoch of the job is the next one of a walk that stands at its first sample
pub record IsNextAt (job : JobSizes) (epoch : ℕ) (due : Option Place) (e : EpochPlan) : Type 0 where
  pub cut : next_epoch job epoch due ≡ Some e
  pub begins : due ≡ Some (place_of e)
  pub fits : IsEpoch job e

-- the same where there is an epoch
abbrev pub IsNext : JobSizes → ℕ → Option Place → Option EpochPlan → Type 0
IsNext job epoch due None = ⊤
IsNext job epoch due (Some e) = IsNextAt job epoch due e

-- where a walk stands behind an epoch, and where it stood where there is none
abbrev pub behind : JobSizes → Option EpochPlan → Option Place → Option Place
behind job None due = due
behind job (Some e) due = place_after job e
