-- Stretches of one direction on a line of delays.
use Rattle.std.specs.Prelude.{◌≡◌, ℕ, ◌≤◌, ◌<◌}
use Rattle.corr_model.specs.Delay.{between}
use Rattle.delay_line.specs.declared.line.Line.{Line}
use Rattle.fringe_turns.specs.declared.fringe.Fringe.{Fringe}
use Rattle.fringe_turns.specs.declared.line_turns.LineTurn.{LineTurn}
use Rattle.fringe_turns.specs.Eighths.{facing_of}

-- the samples from `from` up to, not including, the end, which is at most `to`, have this direction
pub record IsLineTurn (f : Fringe) (line : Line) (from to : ℕ) (turn : LineTurn) : Type 0 where
  pub after : from < turn.end
  pub within : turn.end ≤ to
  pub direction : (n : ℕ) → from ≤ n → n < turn.end → turn.direction ≡ facing_of f (between line.first line.next n line.knot)
