-- A station's part in a scan, as its values are read.
use Rattle.std.specs.Prelude.{◌≡◌, ℕ, length, Option, option_and_then, option_map}
use Rattle.delay_track.specs.Track.{model_of}
use Rattle.job_plan.specs.declared.plan.Recorded.{Recorded}
use Rattle.job_plan.specs.declared.plan.Band.{Band}
use Rattle.job_plan.specs.declared.plan.StationPlan.{StationPlan}
use Rattle.job_plan.specs.declared.plan.StayPlan.{StayPlan}
use Rattle.job_plan.specs.declared.plan.ScanPlan.{ScanPlan}
use Rattle.job_plan.specs.declared.plan.Plan.{Plan}
use Rattle.job_plan.specs.Values.{model_of as model_in, recorded_at, band_at}
use Rattle.station_stream.specs.declared.chan.StationChan.{StationChan}
use Rattle.station_stream.specs.declared.part.StationPart.{StationPart}
use Rattle.station_stream.specs.declared.recording.Recording.{Recording}
use Rattle.station_stream.specs.Part.{chan_at}

-- where a channel is recorded, and its band
abbrev pub chan_with : Recorded → Band → StationChan
chan_with recorded band = record {
  thread = recorded.thread;
  index = recorded.index;
  hertz = band.hertz;
  upper = band.upper;
}

-- a station's channel in a scan, none where it does not record the channel or has no band for it there
abbrev pub chan_of : Option Recorded → Option Band → Option StationChan
chan_of recorded band = option_and_then (λ r. option_map (chan_with r) band) recorded

-- The part of a scan that a station has by its plan: the files of its recording, its frames, its delays through the
-- scan, its samples and its channels.
pub record IsPartOf (plan : Plan) (scan : ScanPlan) (s : StationPlan) (stay : StayPlan) (r : Recording) (part : StationPart) : Type 0 where
  pub files : part.files.now ≡ r.files
  pub shape : part.shape ≡ s.shape
  pub model : model_of part.track ≡ model_in plan scan s
  pub samples : part.track.samples ≡ scan.samples
  pub from : part.from ≡ stay.from
  pub to : part.to ≡ stay.to
  pub each : length part.chans.now ≡ length s.chans
  pub chans : (chan : ℕ) → chan_at part.chans.now chan ≡ chan_of (recorded_at s chan) (band_at stay chan)
