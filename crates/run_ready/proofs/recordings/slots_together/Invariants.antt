use Rattle.std.proofs.Common.{◌≡◌, ◌≤◌, ◌*◌, take}
use Rattle.run_ready.specs.Sizes.{slots_together}
use Rattle.run_ready.proofs.recordings.slots_together.Given as goal

abbrev pub invariant-loop-station : goal.invariant-loop-station
invariant-loop-station l = record {
  value : l.slots ≡ slots_together (take l.station-index l.sized);
  bound : l.slots ≤ 79228162514264337593543950336 * l.station-index;
}
