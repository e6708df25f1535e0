-- The values of a scan: the recorded samples of each station's part in it, delayed and turned
-- (Thompson, Moran and Swenson, chapters 8 and 9).
use Rattle.std.specs.Prelude.{ℕ, ◌==◌, ℤ, pos, unsigned_abs, map, find, Option, None, option_and_then, slice_get, if◌then◌else◌, Bool, int_le, int_lt, ◌&&◌}
use Rattle.corr_model.specs.Sample.{Timing, sample_of}
use Rattle.corr_model.specs.Delay.{DelayModel}
use Rattle.corr_model.specs.Cell.{Value, Samples}
use Rattle.corr_model.specs.Files.{Files, bytes_under}
use Rattle.corr_model.specs.Rotated.{value_at}
use Rattle.job_plan.specs.declared.plan.Recorded.{Recorded}
use Rattle.job_plan.specs.declared.plan.Band.{Band}
use Rattle.job_plan.specs.declared.plan.StationPlan.{StationPlan}
use Rattle.job_plan.specs.declared.plan.StayPlan.{StayPlan}
use Rattle.job_plan.specs.declared.plan.ScanPlan.{ScanPlan}
use Rattle.job_plan.specs.declared.plan.Plan.{Plan}

-- where a station has a channel, none where it lacks the channel
abbrev pub recorded_at : StationPlan → ℕ → Option Recorded
recorded_at s chan = option_and_then (λ r. r) (slice_get s.chans chan)

-- a station's part of a scan, none where it has no part in it
abbrev pub stay_of : ScanPlan → ℕ → Option StayPlan
stay_of scan station = find (λ (stay : StayPlan). stay.station == station) scan.stays

-- a channel's band in a station's part of a scan, none where the station lacks the channel there
abbrev pub band_at : StayPlan → ℕ → Option Band
band_at stay chan = option_and_then (λ band. band) (slice_get stay.bands chan)

-- a sample number from `from` up to, not including, `to`
abbrev pub is_within : ℤ → ℕ → ℕ → Bool
is_within n from to = int_le (pos from) n && int_lt n (pos to)

abbrev pub timing_of : Plan → ScanPlan → StationPlan → Timing
timing_of plan scan s = record { shape = s.shape; start = pos scan.second; rate = plan.rate }

abbrev pub model_of : Plan → ScanPlan → StationPlan → DelayModel
model_of plan scan s = record {
  polys = s.polys;
  clocks = s.clocks;
  start = pos scan.second;
  rate = plan.rate;
  knot = plan.knot;
}

-- the samples of a station's channel
abbrev pub station_sample : Plan → Files → ScanPlan → StationPlan → Recorded → ℤ → Option ℤ
station_sample plan files scan s r n =
    sample_of (timing_of plan scan s) (record { thread = r.thread; index = r.index }) (map (bytes_under files) s.files) n

-- the value at sample n of what a station has recorded of a band
abbrev pub band_value : Plan → Files → ScanPlan → StationPlan → Recorded → Band → ℕ → Value
band_value plan files scan s r band n =
    value_at (station_sample plan files scan s r) (model_of plan scan s) (record { hertz = band.hertz; upper = band.upper }) n

-- the value of a station's channel at sample n of its part of a scan, none where it lacks the channel
abbrev pub station_value : Plan → Files → ScanPlan → StayPlan → StationPlan → ℕ → ℕ → Value
station_value plan files scan stay s chan n =
    option_and_then (λ r. option_and_then (λ band. band_value plan files scan s r band n) (band_at stay chan)) (recorded_at s chan)

-- the value at sample n in a station's part of a scan, none outside of it
abbrev pub stay_value : Plan → Files → ScanPlan → StayPlan → ℕ → ℤ → Value
stay_value plan files scan stay chan n =
    if is_within n stay.from stay.to
    then option_and_then (λ s. station_value plan files scan stay s chan (unsigned_abs n)) (slice_get plan.stations stay.station)
    else None

-- the values of a scan: those of each station's part, and none of a station that has no part in it
unfoldable pub rotated : Plan → Files → ScanPlan → Samples
rotated plan files scan station chan n =
    option_and_then (λ stay. stay_value plan files scan stay chan n) (stay_of scan station)
