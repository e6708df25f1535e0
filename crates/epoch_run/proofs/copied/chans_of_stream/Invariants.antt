use Rattle.std.proofs.Common.{◌≡◌, ◌<◌, ℕ, ℤ, length}
use Rattle.station_stream.specs.Stream.{windowed}
use Rattle.epoch_run.specs.Planes.{chans_value}
use Rattle.epoch_run.proofs.copied.chans_of_stream.Given as goal

abbrev pub invariant-loop-chan : goal.invariant-loop-chan
invariant-loop-chan l = record {
  count : length l.chans.items ≡ l.chan;
  values : (k : ℕ) (n : ℤ) → k < l.chan → chans_value l.chans.items k n ≡ windowed l.stream k n;
}
