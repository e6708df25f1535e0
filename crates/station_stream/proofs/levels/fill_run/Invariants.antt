use Rattle.std.proofs.Common.{◌+◌, ◌-◌, ◌/◌, ◌%◌, ◌<◌, ◌≤◌, ℕ, length, get_or}
use Rattle.vdif_frame.specs.Shape.{samples_per_frame}
use Rattle.station_stream.specs.ThreadFrames.{level_in_frame}
use Rattle.value_codes.specs.Taken.{IsTaken}
use Rattle.station_stream.proofs.levels.fill_run.Given as goal

abbrev pub invariant-loop-done : goal.invariant-loop-done
invariant-loop-done l = record {
  within : l.done ≤ length l.codes;
  taken : (k : ℕ) → k < l.done → IsTaken (get_or l.codes k 0)
      (level_in_frame l.shape l.frames l.index ((l.past + k) / samples_per_frame l.shape) ((l.past + k) % samples_per_frame l.shape));
}

abbrev pub decreases-loop-done : goal.decreases-loop-done
decreases-loop-done l = length l.codes - l.done
