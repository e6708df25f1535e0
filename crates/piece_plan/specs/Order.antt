-- Epochs in order, from a place of the job to a later one.
use Rattle.std.specs.Prelude.{◌≡◌, ℕ, ◌+◌, ◌*◌, nat_lt, if◌then◌else◌, List, [], ◌∷◌, drop, slice_get, Option, Some, None}
use Rattle.piece_plan.specs.declared.job.ScanSize.{ScanSize}
use Rattle.piece_plan.specs.declared.epoch.EpochPlan.{EpochPlan}
use Rattle.piece_plan.specs.Epochs.{JobSizes, IsEpoch, integration_at}

-- where an epoch may begin: a sample of an integration of a scan
pub record Place : Type 0 where
  pub scan : ℕ
  pub m : ℕ
  pub from : ℕ

abbrev pub place_of : EpochPlan → Place
place_of e = record { scan = e.scan; m = e.m; from = e.from }

-- the first sample of these scans, which are numbered from here on, by the samples of an integration; none where no scan has one
abbrev pub first_place : ℕ → ℕ → List ScanSize → Option Place
first_place integration number [] = None
first_place integration number (size ∷ scans) =
    if nat_lt (size.first * integration) size.samples
    then Some (record { scan = number; m = size.first; from = size.first * integration })
    else first_place integration (number + 1) scans

-- the first sample of the job
abbrev pub job_start : JobSizes → Option Place
job_start job = first_place job.integration 0 job.scans

-- the place after an epoch: in its integration, else the first sample of the next integration of the scan, else that
-- of the later scans
abbrev pub place_in : JobSizes → EpochPlan → Option ScanSize → Option Place
place_in job e None = None
place_in job e (Some size) =
    if nat_lt e.to (integration_at job size e.m).to
    then Some (record { scan = e.scan; m = e.m; from = e.to })
    else
    (if nat_lt e.to size.samples
    then Some (record { scan = e.scan; m = e.m + 1; from = e.to })
    else first_place job.integration (e.scan + 1) (drop (e.scan + 1) job.scans))

unfoldable pub place_after : JobSizes → EpochPlan → Option Place
place_after job e = place_in job e (slice_get job.scans e.scan)

-- Epochs in order from one place to another, none being the job's end: the first begins at the one, each next one at
-- the place after the epoch before it, and behind the last stands the other. The epochs may differ in length.
abbrev pub AreInOrder : JobSizes → Option Place → List EpochPlan → Option Place → Type 0
AreInOrder job due [] end = due ≡ end
AreInOrder job due (e ∷ epochs) end =
    (due ≡ Some (place_of e)) × IsEpoch job e × AreInOrder job (place_after job e) epochs end

-- epochs in order from the job's first sample to its end
abbrev pub CoverJob : JobSizes → List EpochPlan → Type 0
CoverJob job epochs = AreInOrder job (job_start job) epochs None
