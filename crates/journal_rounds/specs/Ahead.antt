-- What is summed and read ahead of the epochs that are kept.
use Rattle.std.specs.Prelude.{◌≡◌, ℕ, ◌+◌, ◌*◌, ◌-◌, ◌≤◌, option_map, Option, None, Some, IfSome}
use Rattle.corr_model.specs.Files.{Files}
use Rattle.dev_traits.specs.Told.{WhereTold}
use Rattle.piece_plan.specs.declared.epoch.EpochPlan.{EpochPlan}
use Rattle.piece_plan.specs.Epochs.{JobSizes, IsEpoch, IsOfPlan}
use Rattle.piece_plan.specs.Limited.{IsPart}
use Rattle.piece_plan.specs.Order.{Place, place_of}
use Rattle.plan_places.specs.Places.{place_at, IsPlace}
use Rattle.plan_places.specs.Walk.{cut_at}
use Rattle.job_plan.specs.declared.plan.ScanPlan.{ScanPlan}
use Rattle.ready_job.specs.declared.ready.Ready.{Ready}
use Rattle.station_stream.specs.Recorded.{AreRecorded}
use Rattle.run_sums.specs.Found.{IsOfScan}
use Rattle.run_sums.specs.Frames.{HoldsFrames}
use Rattle.run_sums.specs.Reach.{HoldsEpoch}
use Rattle.run_sums.specs.Sums.{AreSums}
use Rattle.journal_rounds.specs.declared.values.Framed.{Framed}
use Rattle.journal_rounds.specs.declared.values.Held.{Held}
use Rattle.journal_rounds.specs.declared.sums.Summed.{Summed}
use Rattle.journal_rounds.specs.declared.ahead.Ahead.{Ahead}
use Rattle.journal_rounds.specs.Epochs.{IsNext, behind}

-- a part of the job, the recordings of its plan where the files are told, and the length of an epoch, in its range
pub record IsWalk (told : Option Files) (ready : Ready) (part : JobSizes) (epoch : ℕ) : Type 0 where
  pub of_job : IsPart ready.epochs part
  pub recorded : WhereTold told (λ files. AreRecorded files ready.plan.stations ready.recordings.items)
  pub range : (1 ≤ epoch) × (epoch ≤ 4194304)

-- values of an epoch of the job, at the samples that its lags reach where the files are told
pub record IsHeld (told : Option Files) (ready : Ready) (held : Held) : Type 0 where
  pub fits : IsEpoch ready.epochs held.epoch
  pub scan : ScanPlan
  pub of_scan : IsOfScan ready.plan scan held.epoch
  pub values : HoldsEpoch told ready.plan scan held.epoch held.values

-- frames of an epoch of the job, at the samples that its lags reach: those of the files, where these are told
pub record IsFramed (told : Option Files) (ready : Ready) (framed : Framed) : Type 0 where
  pub fits : IsEpoch ready.epochs framed.epoch
  pub scan : ScanPlan
  pub of_scan : IsOfScan ready.plan scan framed.epoch
  pub frames : HoldsFrames told ready.plan ready.recordings.items scan framed.epoch framed.frames

-- sums of an epoch of the job
pub record AreSumsOf (told : Option Files) (ready : Ready) (s : Summed) : Type 0 where
  pub fits : IsEpoch ready.epochs s.epoch
  pub of_plan : IsOfPlan s.epoch
  pub sums : AreSums told ready.plan s.epoch s.sums

-- the epoch of sums is one of the job, of this length where it begins
abbrev pub IsCut : JobSizes → ℕ → Summed → Type 0
IsCut job epoch s = IsEpoch job s.epoch × (cut_at job epoch (place_of s.epoch) ≡ Some s.epoch)

-- the epoch that is read
abbrev pub epoch_read : Option Held → Option EpochPlan
epoch_read None = None
epoch_read (Some held) = Some held.epoch

-- the epoch that is summed
abbrev pub epoch_summed : Option Summed → Option EpochPlan
epoch_summed None = None
epoch_summed (Some s) = Some s.epoch

-- Where a walk through a part of the job stands at the first sample that is not kept: what is summed is its next epoch, what is read
-- is the one behind that, or its next one where none is summed, and the next one that is to be read begins behind these.
pub record IsAhead (told : Option Files) (ready : Ready) (job : JobSizes) (epoch : ℕ) (due : Option Place) (ahead : Ahead) : Type 0 where
  pub sums : IfSome ahead.summed (AreSumsOf told ready)
  pub values : IfSome ahead.held (IsHeld told ready)
  pub first : IsNext job epoch due (epoch_summed ahead.summed)
  pub second : IsNext job epoch (behind job (epoch_summed ahead.summed) due) (epoch_read ahead.held)
  pub next : option_map place_at ahead.next
      ≡ behind job (epoch_read ahead.held) (behind job (epoch_summed ahead.summed) due)
  pub place : IfSome ahead.next (λ p. IsPlace job (place_at p))

-- how many of the three steps are done of the first epoch that is not kept
abbrev pub steps_done : {A B : Type 0} → Option A → Option B → ℕ
steps_done (Some summed) held = 2
steps_done None (Some held) = 1
steps_done None None = 0

-- the steps of an epoch that is appended, where one is
abbrev pub steps_kept : {A : Type 0} → Option A → ℕ
steps_kept None = 0
steps_kept (Some summed) = 3

-- how many steps are left at most, where so many epochs are not kept
abbrev pub steps_left : ℕ → Ahead → ℕ
steps_left left ahead = 3 * left - steps_done ahead.summed ahead.held

-- one more where an epoch is appended
abbrev pub kept_with : {A : Type 0} → Option A → ℕ → ℕ
kept_with None kept = kept
kept_with (Some summed) kept = kept + 1
