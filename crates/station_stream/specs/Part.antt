-- A station in a scan, and the values of its channels (Thompson, Moran and Swenson, chapters 8 and 9).
use Rattle.std.specs.Prelude.{◌≡◌, ℕ, ◌^◌, ◌<◌, ℤ, unsigned_abs, List, length, map, Option, None, option_and_then, slice_get, if◌then◌else◌}
use Rattle.corr_model.specs.Sample.{Timing, sample_of}
use Rattle.corr_model.specs.Cell.{Value}
use Rattle.corr_model.specs.Rotated.{value_at}
use Rattle.delay_track.specs.Track.{model_of}
use Rattle.frame_index.specs.declared.recording.FileRef.{FileRef}
use Rattle.frame_index.specs.Recording.{Shelved, AreOnShelf, bytes_on, slots_on}
use Rattle.frame_index.specs.Indexed.{IndexFields, IsIndexOf}
use Rattle.job_plan.specs.declared.plan.StationPlan.{StationPlan}
use Rattle.job_plan.specs.Values.{is_within}
use Rattle.station_stream.specs.declared.chan.StationChan.{StationChan}
use Rattle.station_stream.specs.declared.part.StationPart.{StationPart}
use Rattle.station_stream.specs.declared.recording.Recording.{Recording}

-- the index is that of the part's files, which stand on the shelf
abbrev pub IsIndexed : Shelved → StationPart → IndexFields → Type 0
IsIndexed told p index = AreOnShelf p.files.now told × IsIndexOf p.shape (slots_on told p.shape p.files.now) index

-- the frames of a station as seen from the scan
abbrev pub timing_of : StationPart → Timing
timing_of p = record { shape = p.shape; start = p.track.second; rate = p.track.rate }

-- the sample of a channel at a place of the scan
abbrev pub chan_sample : Shelved → StationPart → StationChan → ℤ → Option ℤ
chan_sample told p c n = sample_of (timing_of p) (record { thread = c.thread; index = c.index }) (bytes_on told p.files.now) n

-- the value of a channel at sample n
abbrev pub chan_value : Shelved → StationPart → StationChan → ℕ → Value
chan_value told p c n = value_at (chan_sample told p c) (model_of p.track) (record { hertz = c.hertz; upper = c.upper }) n

-- the channel at a place among the station's, none where it lacks that channel
abbrev pub chan_at : List (Option StationChan) → ℕ → Option StationChan
chan_at chans chan = option_and_then (λ c. c) (slice_get chans chan)

-- the value at sample n of the channel at a place, none outside the station's part
abbrev pub part_value : Shelved → StationPart → ℕ → ℤ → Value
part_value told p chan n =
    if is_within n p.from p.to
    then option_and_then (λ c. chan_value told p c (unsigned_abs n)) (chan_at p.chans.now chan)
    else None

-- the files that a recording has, on a shelf, and the index of their frames
pub record IsRecordingOf (told : Shelved) (s : StationPlan) (r : Recording) : Type 0 where
  pub shelved : AreOnShelf r.files told
  pub index : IsIndexOf s.shape (slots_on told s.shape r.files) r.index

-- a recording names the files of its station
pub record IsNamedBy (s : StationPlan) (r : Recording) : Type 0 where
  pub names : map (λ (f : FileRef). f.name) r.files ≡ s.files
  pub few : length r.files < 2 ^ 32
