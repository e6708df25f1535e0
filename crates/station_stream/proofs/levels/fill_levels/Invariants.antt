use Rattle.std.proofs.Common.{◌≡◌, ◌+◌, ◌-◌, ◌<◌, ◌≤◌, ℕ, pos, ◌+ℤ◌, length, get_or}
use Rattle.corr_model.specs.Delay.{whole_at}
use Rattle.delay_track.specs.Track.{model_of}
use Rattle.station_stream.specs.ThreadFrames.{level_in_frames}
use Rattle.value_codes.specs.Taken.{IsTaken}
use Rattle.station_stream.proofs.levels.fill_levels.Given as goal

abbrev pub invariant-loop-run : goal.invariant-loop-run
invariant-loop-run l = record {
  model : l.runs.model ≡ model_of l.part.track;
  to : l.runs.to ≡ l.from + length l.initial.codes;
  begun : l.from ≤ l.runs.at;
  within : l.runs.at ≤ l.runs.to;
  taken : (k : ℕ) → l.from + k < l.runs.at → IsTaken (get_or l.codes k 0)
      (level_in_frames l.part.shape l.frames l.index (pos (l.from + k) +ℤ whole_at (model_of l.part.track) (l.from + k)));
}

abbrev pub decreases-loop-run : goal.decreases-loop-run
decreases-loop-run l = l.runs.to - l.runs.at
