use Rattle.std.proofs.Common.{◌<◌, length}
use Rattle.station_stream.proofs.room.best_place.Given as goal

abbrev pub invariant-loop-i : goal.invariant-loop-i
invariant-loop-i l = record {
  inside : l.place < length l.spare;
}
