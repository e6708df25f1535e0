use Rattle.std.proofs.Common.{◌≡◌, ◌*◌, ◌≤◌, ℕ, Vec, Global, length, map, get_or}
use Rattle.epoch_run.specs.Planes.{items_of}
use Rattle.epoch_run.specs.Rows.{HoldRows}
use Rattle.epoch_run.proofs.coded.stations_of_rows.Given as goal

abbrev pub invariant-loop-station : goal.invariant-loop-station
invariant-loop-station l = record {
  count : length l.planes.items ≡ l.station;
  long : length l.left.items ≡ length l.initial.left.items;
  rows : HoldRows l.from l.chans l.initial.left.items (map items_of l.planes.items);
  left : (k : ℕ) (d : Vec ℕ Global) → l.station * l.chans ≤ k → get_or l.left.items k d ≡ get_or l.initial.left.items k d;
}
