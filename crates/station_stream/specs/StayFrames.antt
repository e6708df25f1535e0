-- The frames of a station's part of a scan, and what they hold.
use Rattle.std.specs.Prelude.{◌≡◌, ℕ, List, length, Option, Some, slice_get}
use Rattle.std.specs.List.{All}
use Rattle.std.specs.Option.{ForSome}
use Rattle.frame_index.specs.Recording.{Shelved}
use Rattle.job_plan.specs.declared.plan.StationPlan.{StationPlan}
use Rattle.job_plan.specs.declared.plan.StayPlan.{StayPlan}
use Rattle.job_plan.specs.declared.plan.ScanPlan.{ScanPlan}
use Rattle.job_plan.specs.declared.plan.Plan.{Plan}
use Rattle.job_plan.specs.Values.{recorded_at, band_at}
use Rattle.station_stream.specs.declared.chan.StationChan.{StationChan}
use Rattle.station_stream.specs.declared.part.StationPart.{StationPart}
use Rattle.station_stream.specs.declared.recording.Recording.{Recording}
use Rattle.station_stream.specs.declared.threads.Threads.{Threads}
use Rattle.station_stream.specs.declared.stay_frames.StayFrames.{StayFrames}
use Rattle.station_stream.specs.Part.{chan_at}
use Rattle.station_stream.specs.Ranges.{IsChanOf}
use Rattle.station_stream.specs.StayParts.{chan_of, IsPartOf}
use Rattle.station_stream.specs.Swept.{AreSwept}

-- a station's channels in a scan, and the frames in which the samples of its part from `from` up to, not including, `to` lie
pub record HoldPart (told : Option Shelved) (plan : Plan) (scan : ScanPlan) (s : StationPlan) (stay : StayPlan) (r : Recording)
    (from to : ℕ) (own : List (Option StationChan)) (sweeps : List Threads) : Type 0 where
  pub each : length own ≡ length s.chans
  pub chans : (chan : ℕ) → chan_at own chan ≡ chan_of (recorded_at s chan) (band_at stay chan)
  pub ranges : All (λ chan. ForSome chan (IsChanOf s.shape)) own
  pub swept : (part : StationPart) → IsPartOf plan scan s stay r part → AreSwept told part from to sweeps

-- the part of a scan that a station of a plan has, whose recordings these are
pub record IsPartOfStay (plan : Plan) (scan : ScanPlan) (stay : StayPlan) (recordings : List Recording) (part : StationPart) : Type 0 where
  pub of : (s : StationPlan) (r : Recording) → slice_get plan.stations stay.station ≡ Some s → slice_get recordings stay.station ≡ Some r
      → IsPartOf plan scan s stay r part

-- Frames of a station's part of a scan of a plan, whose recordings these are. Where the files are told, they are those of the files.
pub record HoldStay (told : Option Shelved) (plan : Plan) (scan : ScanPlan) (stay : StayPlan) (recordings : List Recording) (f : StayFrames) : Type 0 where
  pub of : (s : StationPlan) (r : Recording) → slice_get plan.stations stay.station ≡ Some s → slice_get recordings stay.station ≡ Some r
      → HoldPart told plan scan s stay r f.from f.to f.chans.items f.sweeps.items

-- the same, of a part
abbrev pub HoldFrames : Option Shelved → StationPart → StayFrames → Type 0
HoldFrames told part f = AreSwept told part f.from f.to f.sweeps.items
