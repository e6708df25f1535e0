use Rattle.std.proofs.Common.{◌≡◌, map, take}
use Rattle.vis_writer.specs.PlanCells.{key_of}
use Rattle.vis_writer.proofs.head.keys_of.Given as goal

abbrev pub invariant-loop-station : goal.invariant-loop-station
invariant-loop-station l = l.keys.items ≡ map key_of (take l.station-index l.stations)
