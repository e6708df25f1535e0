use Rattle.std.proofs.Common.{◌≡◌, ◌<◌, ℕ, Vec, Global, length, get_or}
use Rattle.bit_planes.specs.Planes.{PlanesFields}
use Rattle.epoch_run.specs.Planes.{HoldChansAt}
use Rattle.epoch_run.proofs.copied.stations_of_streams.Given as goal

abbrev pub invariant-loop-station : goal.invariant-loop-station
invariant-loop-station l = record {
  count : length l.stations.items ≡ l.station;
  each : (i : ℕ) (d : Vec PlanesFields Global) → i < l.station → HoldChansAt l.streams i (get_or l.stations.items i d).items;
}
