use Rattle.std.proofs.Common.{◌≡◌, ◌+◌, length, Option}
use Rattle.frame_index.specs.Recording.{Shelved}
use Rattle.station_stream.specs.Filled.{AllFilled}
use Rattle.station_stream.specs.Swept.{AreSwept}
use Rattle.station_stream.proofs.window.all_filled.Given as goal

abbrev pub invariant-loop-chan : goal.invariant-loop-chan
invariant-loop-chan l = record {
  each : length l.chans.items ≡ l.chan-index;
  filled : (told : Option Shelved) → AreSwept told l.part l.window.from (l.window.from + l.window.count) l.sweeps
      → AllFilled told l.part l.window l.part.to l.chans.items;
}
