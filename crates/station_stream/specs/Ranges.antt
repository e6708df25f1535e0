-- A station in a scan: its channels and its part lie within what there is.
use Rattle.std.specs.Prelude.{◌≡◌, ℕ, ◌*◌, ◌^◌, ◌≤◌, ◌<◌, List, Option}
use Rattle.std.specs.Option.{ForSome}
use Rattle.std.specs.List.{All}
use Rattle.vdif_frame.specs.Shape.{ShapeFields, samples_per_frame, chans_of}
use Rattle.delay_track.specs.declared.track.Track.{Track}
use Rattle.station_stream.specs.declared.chan.StationChan.{StationChan}

-- a channel that a frame of this shape can hold
abbrev pub IsChanOf : ShapeFields → StationChan → Type 0
IsChanOf shape c = (c.thread < 1024) × ((c.index < chans_of shape) × (c.hertz < 2 ^ 40))

-- A station in a scan: its frames fill each second, and its part lies in the scan.
pub record IsPart (shape : ShapeFields) (track : Track) (from to : ℕ) (chans : List (Option StationChan)) : Type 0 where
  pub rate : track.rate ≡ shape.frames * samples_per_frame shape
  pub order : from ≤ to
  pub inside : to ≤ track.samples
  pub each : All (λ chan. ForSome chan (IsChanOf shape)) chans
