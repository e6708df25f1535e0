use Rattle.std.proofs.Common.{◌≡◌, ◌≤◌, ◌<◌, ◌^◌, ◌-◌, ◌≤ℤ◌, unsigned_abs}
use Rattle.delay_track.specs.Track.{model_of}
use Rattle.station_stream.specs.Sweep.{recorded_at, LieIn}
use Rattle.station_stream.proofs.sweep.Sweep.of.Given as goal

abbrev pub invariant-loop-run : goal.invariant-loop-run
invariant-loop-run l = record {
  model : l.runs.model ≡ model_of l.part.track;
  at : l.runs.at ≡ l.end;
  to : l.runs.to ≡ l.to;
  begun : l.from ≤ l.end;
  within : l.end ≤ l.to;
  order : l.first ≤ℤ l.last;
  near_first : unsigned_abs l.first < 2 ^ 60;
  near_last : unsigned_abs l.last < 2 ^ 60;
  first : l.end ≡ l.from → l.first ≡ recorded_at l.part.track l.from;
  last : l.end ≡ l.from → l.last ≡ recorded_at l.part.track l.from;
  lie : LieIn l.part.track l.from l.end l.first l.last;
}

abbrev pub decreases-loop-run : goal.decreases-loop-run
decreases-loop-run l = l.runs.to - l.runs.at
