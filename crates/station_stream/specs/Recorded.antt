-- The recordings of a plan's stations.
use Rattle.std.specs.Prelude.{◌≡◌, ℕ, List, length, Some, slice_get}
use Rattle.frame_index.specs.Recording.{Shelved}
use Rattle.job_plan.specs.declared.plan.StationPlan.{StationPlan}
use Rattle.station_stream.specs.declared.recording.Recording.{Recording}
use Rattle.station_stream.specs.Part.{IsRecordingOf, IsNamedBy}

-- a recording for each station, which names its files
pub record AreNamed (stations : List StationPlan) (recordings : List Recording) : Type 0 where
  pub each : length recordings ≡ length stations
  pub named : (i : ℕ) (s : StationPlan) (r : Recording) → slice_get stations i ≡ Some s → slice_get recordings i ≡ Some r → IsNamedBy s r

-- each recording's files stand on the shelf, and its index is theirs
abbrev pub AreRecorded : Shelved → List StationPlan → List Recording → Type 0
AreRecorded shelf stations recordings =
    (i : ℕ) (s : StationPlan) (r : Recording) → slice_get stations i ≡ Some s → slice_get recordings i ≡ Some r → IsRecordingOf shelf s r
