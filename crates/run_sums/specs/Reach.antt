-- The samples that the lags of an epoch reach, and planes of their values.
use Rattle.std.specs.Prelude.{◌≡◌, ℕ, ◌+◌, ◌-◌, ◌/◌, min, length, List, Option, Some, slice_get, ℤ, pos, ◌≤ℤ◌, ◌<ℤ◌}
use Rattle.dev_traits.specs.Told.{WhereTold}
use Rattle.corr_model.specs.Files.{Files}
use Rattle.bit_planes.specs.Planes.{PlanesFields}
use Rattle.piece_plan.specs.declared.epoch.EpochPlan.{EpochPlan}
use Rattle.job_plan.specs.declared.plan.StayPlan.{StayPlan}
use Rattle.job_plan.specs.declared.plan.ScanPlan.{ScanPlan}
use Rattle.job_plan.specs.declared.plan.Plan.{Plan}
use Rattle.job_plan.specs.Values.{stay_value}
use Rattle.epoch_run.specs.Planes.{planed}
use Rattle.run_sums.specs.declared.values.EpochValues.{EpochValues}
use Rattle.run_sums.specs.Pairs.{pairs_in}

-- the first of them, not before the scan: the least lag is half their number below 0
abbrev pub reach_from : EpochPlan → ℕ
reach_from e = e.from - e.lags / 2

-- the sample behind the last one, not past a scan of so many samples: the greatest lag is 1 less than half their number
abbrev pub reach_to : EpochPlan → ℕ → ℕ
reach_to e samples = min samples (e.to + (e.lags / 2 - 1))

-- at the samples that the lags reach the planes of each station of the scan hold the values of its part
abbrev pub AreReached : Plan → ScanPlan → EpochPlan → List (List PlanesFields) → Files → Type 0
AreReached plan scan e planes files =
    (place chan : ℕ) (stay : StayPlan) (n : ℤ) → slice_get scan.stays place ≡ Some stay → pos (reach_from e) ≤ℤ n → n <ℤ pos (reach_to e scan.samples)
    → planed planes place chan n ≡ stay_value plan files scan stay chan n

-- Values from which an epoch of a scan is summed: the pairs of the scan, and planes for each of its stations. Where the files are
-- told, these hold the values of the scan at the samples that the epoch's lags reach.
pub record HoldsEpoch (told : Option Files) (plan : Plan) (scan : ScanPlan) (e : EpochPlan) (v : EpochValues) : Type 0 where
  pub pairs : v.pairs.items ≡ pairs_in plan scan
  pub count : length v.planes ≡ length scan.stays
  pub values : WhereTold told (AreReached plan scan e v.planes)
