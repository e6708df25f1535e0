-- Planes of the channels of stations.
use Rattle.std.specs.Prelude.{◌≡◌, ℕ, ◌^◌, ◌<◌, ℤ, min, List, [], length, Some, Vec, option_and_then, slice_get, slice_index_or}
use Rattle.std.specs.Global.{Global}
use Rattle.corr_model.specs.declared.cell.Pair.{Pair}
use Rattle.corr_model.specs.Cell.{Value, Samples}
use Rattle.bit_planes.specs.Planes.{PlanesFields, plane_value}
use Rattle.station_stream.specs.Stream.{StreamFields, windowed}
use Rattle.epoch_run.specs.Streamed.{streamed}

-- the value of a station's channel at a sample, none past the last channel
abbrev pub chans_value : List PlanesFields → ℕ → ℤ → Value
chans_value chans chan n = option_and_then (λ (p : PlanesFields). plane_value p n) (slice_get chans chan)

-- the value of a channel of the station at a place, none past the last station
abbrev pub planed : List (List PlanesFields) → Samples
planed stations station chan n = chans_value (slice_index_or stations station []) chan n

-- the planes hold what the streams do, for every number of a station and of a channel that a pair can have
abbrev pub HoldStreams : List (List PlanesFields) → List StreamFields → Type 0
HoldStreams stations streams =
    (station chan : ℕ) (n : ℤ) → station < 2 ^ 32 → chan < 2 ^ 32 → planed stations station chan n ≡ streamed streams station chan n

-- a pair has such numbers
pub record IsNumbered (pair : Pair) : Type 0 where
  pub a : pair.a < 2 ^ 32
  pub x : pair.x < 2 ^ 32
  pub b : pair.b < 2 ^ 32
  pub y : pair.y < 2 ^ 32

-- the planes of a station without their place in memory
abbrev pub items_of : Vec PlanesFields Global → List PlanesFields
items_of chans = chans.items

-- planes that hold the values of a stream, for each of its channels that a pair can have
pub record HoldChans (s : StreamFields) (planes : List PlanesFields) : Type 0 where
  pub count : length planes ≡ min (length s.values) (2 ^ 32)
  pub values : (chan : ℕ) (n : ℤ) → chan < length planes → chans_value planes chan n ≡ windowed s chan n

-- the same for the stream at a place
abbrev pub HoldChansAt : List StreamFields → ℕ → List PlanesFields → Type 0
HoldChansAt streams i chans = (s : StreamFields) → slice_get streams i ≡ Some s → HoldChans s chans

-- and for each stream that a pair can have
pub record HoldEach (streams : List StreamFields) (stations : List (Vec PlanesFields Global)) : Type 0 where
  pub count : length stations ≡ min (length streams) (2 ^ 32)
  pub each : (i : ℕ) (d : Vec PlanesFields Global) → i < length stations → HoldChansAt streams i (slice_index_or stations i d).items
