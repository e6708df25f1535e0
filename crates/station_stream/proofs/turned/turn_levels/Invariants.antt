use Rattle.std.proofs.Common.{◌≡◌, ◌+◌, ◌-◌, ◌<◌, ◌≤◌, ℕ, ℤ, Option, option_map, length, get_or}
use Rattle.delay_track.specs.Track.{model_of}
use Rattle.fringe_turns.specs.Direction.{direction_at}
use Rattle.value_codes.specs.Codes.{value_of, turned_by}
use Rattle.value_codes.specs.Taken.{IsTaken}
use Rattle.station_stream.proofs.turned.turn_levels.Given as goal

abbrev pub invariant-loop-turn : goal.invariant-loop-turn
invariant-loop-turn l = record {
  model : l.turns.model ≡ model_of l.part.track;
  band : l.turns.band ≡ record { hertz = l.chan.hertz; upper = l.chan.upper };
  to : l.turns.to ≡ l.from + length l.initial.codes;
  begun : l.from ≤ l.turns.at;
  within : l.turns.at ≤ l.turns.to;
  turned : (k : ℕ) (level : Option ℤ) → l.from + k < l.turns.at → IsTaken (get_or l.initial.codes k 0) level
      → value_of (get_or l.codes k 0) ≡ option_map (λ x. turned_by x (direction_at (model_of l.part.track)
      (record { hertz = l.chan.hertz; upper = l.chan.upper }) (l.from + k))) level;
  left : (k : ℕ) → l.turns.at ≤ l.from + k → get_or l.codes k 0 ≡ get_or l.initial.codes k 0;
}

abbrev pub decreases-loop-turn : goal.decreases-loop-turn
decreases-loop-turn l = l.turns.to - l.turns.at
