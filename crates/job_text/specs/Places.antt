-- The places of stations by their keys.
use Rattle.std.specs.Prelude.{◌≡◌, ℕ, ◌<◌, List, length, slice_index_or, Some, is_some}
use Rattle.std.specs.List.{All}
use Rattle.named_list.specs.Named.{named, put}
use Rattle.job_text.specs.declared.part.Part.{Part}
use Rattle.job_text.specs.declared.part.Part.TheVariants.{File, Chan, Clock, Poly}
use Rattle.job_text.specs.Job.{StationFields}
use Rattle.job_text.specs.Ranges.{IsStationOf}
use Rattle.job_text.specs.Faults.{has_channel}

-- under the key of each station stands its place, and under no other name a place
pub record ArePlaces (stations : List StationFields) (places : List (List ℕ × ℕ)) : Type 0 where
  pub at : (k : ℕ) (d : StationFields) → k < length stations → named places (slice_index_or stations k d).key ≡ Some k
  pub within : (key : List ℕ) (k : ℕ) → named places key ≡ Some k → k < length stations
  pub there : (key : List ℕ) (k : ℕ) (d : StationFields) → named places key ≡ Some k → (slice_index_or stations k d).key ≡ key

-- what is kept of stations beside them: their places, and the names of their channels
pub record AreIndexed {T : Type 0} (stations : List StationFields) (places : List (List ℕ × ℕ)) (channels : List (List ℕ × T)) : Type 0 where
  pub at_places : ArePlaces stations places
  pub each : All IsStationOf stations
  pub has_names : (name : List ℕ) → is_some (named channels name) ≡ has_channel stations name

-- the names of channels with that of a line, where it states a channel
abbrev pub with_name : {T : Type 0} → Part → List ℕ → T → List (List ℕ × T) → List (List ℕ × T)
with_name Chan name thing channels = put channels name thing
with_name File name thing channels = channels
with_name Clock name thing channels = channels
with_name Poly name thing channels = channels
