-- The frames from which the planes of an epoch are made.
use Rattle.std.specs.Prelude.{◌≡◌, ℕ, ◌+◌, ◌-◌, ◌*◌, ◌/◌, ◌%◌, ◌≤◌, ◌<◌, pos, List, length, Option, Some, Vec, option_and_then, slice_get, slice_index, slice_index_or}
use Rattle.std.specs.Global.{Global}
use Rattle.std.specs.List.{All}
use Rattle.corr_model.specs.Cell.{Value}
use Rattle.corr_model.specs.Files.{Files}
use Rattle.dev_traits.specs.Told.{WhereTold}
use Rattle.value_codes.specs.Codes.{value_of}
use Rattle.piece_plan.specs.declared.epoch.EpochPlan.{EpochPlan}
use Rattle.job_plan.specs.declared.plan.StayPlan.{StayPlan}
use Rattle.job_plan.specs.declared.plan.ScanPlan.{ScanPlan}
use Rattle.job_plan.specs.declared.plan.Plan.{Plan}
use Rattle.job_plan.specs.Ranges.{IsPlan, IsScanPlan}
use Rattle.job_plan.specs.Values.{stay_value}
use Rattle.station_stream.specs.declared.recording.Recording.{Recording}
use Rattle.station_stream.specs.declared.stay_frames.StayFrames.{StayFrames}
use Rattle.station_stream.specs.Recorded.{AreNamed}
use Rattle.station_stream.specs.StayFrames.{HoldStay}
use Rattle.run_sums.specs.declared.frames.EpochFrames.{EpochFrames}
use Rattle.run_sums.specs.declared.making.Making.{Making}
use Rattle.run_sums.specs.Pairs.{pairs_in}
use Rattle.run_sums.specs.Reach.{reach_from, reach_to}

-- frames of the samples from `from` up to, not including, `to`
abbrev pub IsOfSamples : ℕ → ℕ → StayFrames → Type 0
IsOfSamples from to f = (f.from ≡ from) × (f.to ≡ to)

-- the frames of each station's part of a scan at these samples
pub record AreFrames (told : Option Files) (plan : Plan) (scan : ScanPlan) (recordings : List Recording) (from to : ℕ) (frames : List StayFrames) : Type 0 where
  pub count : length frames ≡ length scan.stays
  pub window : All (IsOfSamples from to) frames
  pub held : (place : ℕ) (stay : StayPlan) (d : StayFrames) → slice_get scan.stays place ≡ Some stay → HoldStay told plan scan stay recordings (slice_index_or frames place d)

-- rows of so many bytes, one row for each of so many channels of each of so many stations
pub record AreRows (stations chans size : ℕ) (rows : List (Vec ℕ Global)) : Type 0 where
  pub count : length rows ≡ stations * chans
  pub long : All (λ row. length row.items ≡ size) rows

-- Frames of an epoch of a scan: the pairs of the scan, a row for each channel of each of its stations, with a byte for each sample
-- that the epoch's lags reach, and the frames of those samples. Where the files are told, they are those of the files.
pub record HoldsFrames (told : Option Files) (plan : Plan) (recordings : List Recording) (scan : ScanPlan) (e : EpochPlan) (v : EpochFrames) : Type 0 where
  pub pairs : v.pairs.items ≡ pairs_in plan scan
  pub rows : AreRows (length scan.stays) (length plan.channels) (reach_to e scan.samples - reach_from e) v.rows.items
  pub frames : AreFrames told plan scan recordings (reach_from e) (reach_to e scan.samples) v.stations.items

-- what the threads know that make the rows
pub record IsMaking (told : Option Files) (m : Making) : Type 0 where
  pub plan : IsPlan m.plan.now
  pub scan : IsScanPlan m.plan.now m.scan.now
  pub named : AreNamed m.plan.now.stations m.recordings.now
  pub inside : m.to ≤ m.scan.now.samples
  pub frames : AreFrames told m.plan.now m.scan.now m.recordings.now m.from m.to m.frames.now

-- the value that the row at a place has at sample n
abbrev pub made_value : Making → ℕ → ℕ → Files → Value
made_value m row n files =
    option_and_then (λ stay. stay_value m.plan.now files m.scan.now stay (row % length m.plan.now.channels) (pos n))
    (slice_get m.scan.now.stays (row / length m.plan.now.channels))

-- codes of a row's values from sample n on
abbrev pub AreMade : Making → ℕ → ℕ → List ℕ → Files → Type 0
AreMade m row n codes files = (k : ℕ) → k < length codes → value_of (slice_index codes k) ≡ made_value m row (n + k) files

-- how many rows there are: one for each channel of each station
abbrev pub rows_in : Making → ℕ
rows_in m = length m.scan.now.stays * length m.plan.now.channels

-- a row with a byte for each sample
abbrev pub IsRowIn : Making → Vec ℕ Global → Type 0
IsRowIn m row = m.from + length row.items ≡ m.to

-- codes of a row's values from its place `start` on, for whatever files the frames are of
pub record IsStretch (m : Making) (row start : ℕ) (codes : List ℕ) : Type 0 where
  pub made : (told : Option Files) → IsMaking told m → WhereTold told (AreMade m row (m.from + start) codes)

-- rows of such codes, the first one being row `first`
abbrev pub AreRowsMade : Making → ℕ → List (Vec ℕ Global) → Files → Type 0
AreRowsMade m first rows files = (i : ℕ) (d : Vec ℕ Global) → i < length rows → AreMade m (first + i) m.from (slice_index_or rows i d).items files

pub record AreAllMade (m : Making) (first : ℕ) (rows : List (Vec ℕ Global)) : Type 0 where
  pub long : All (IsRowIn m) rows
  pub made : (told : Option Files) → IsMaking told m → WhereTold told (AreRowsMade m first rows)
