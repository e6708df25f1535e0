use Rattle.std.proofs.Common.{◌≡◌, ◌+◌, ◌-◌, ◌<◌, ◌≤◌, ℕ, length, get_or}
use Rattle.value_codes.specs.Codes.{value_of}
use Rattle.station_stream.specs.ThreadFrames.{value_in_frames}
use Rattle.station_stream.proofs.piece.fill_values.Given as goal

abbrev pub invariant-loop-done : goal.invariant-loop-done
invariant-loop-done l = record {
  within : l.done ≤ length l.codes;
  values : (k : ℕ) → k < l.done → value_of (get_or l.codes k 0) ≡ value_in_frames l.part l.chan l.frames (l.from + k);
}

abbrev pub decreases-loop-done : goal.decreases-loop-done
decreases-loop-done l = length l.codes - l.done
