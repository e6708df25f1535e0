-- Turns of one direction, one after another.
use Rattle.std.specs.Prelude.{◌≡◌, ℕ, ◌≤◌, ◌<◌, Option, Some, None}
use Rattle.corr_model.specs.Delay.{DelayModel}
use Rattle.corr_model.specs.Rotated.{Band}
use Rattle.delay_track.specs.declared.piece.Piece.{Piece}
use Rattle.delay_track.specs.Piece.{delay_on}
use Rattle.fringe_turns.specs.declared.fringe.Fringe.{Fringe}
use Rattle.fringe_turns.specs.declared.turns.Turn.{Turn}
use Rattle.fringe_turns.specs.Direction.{direction_at}
use Rattle.fringe_turns.specs.Eighths.{facing_of}

-- the directions of a band at the samples that are left, those from `at` up to, not including, `to`
pub record TurnsFields : Type 0 where
  pub model : DelayModel
  pub band : Band
  pub at : ℕ
  pub to : ℕ

-- samples from `from` on, and before `to`, and the direction of each of them
pub record IsTurn (m : DelayModel) (band : Band) (from to : ℕ) (turn : Turn) : Type 0 where
  pub begins : turn.from ≡ from
  pub after : from < turn.to
  pub within : turn.to ≤ to
  pub direction : (n : ℕ) → from ≤ n → n < turn.to → turn.direction ≡ direction_at m band n

-- What comes next: a turn from the first sample that is left, and behind it the samples behind that turn; nothing where no
-- sample is left.
abbrev pub IsNextTurn : TurnsFields → Option Turn → TurnsFields → Type 0
IsNextTurn old None new = (old.at ≡ old.to) × (new ≡ old)
IsNextTurn old (Some turn) new =
    IsTurn old.model old.band old.at old.to turn
    × (new ≡ record { model = old.model; band = old.band; at = turn.to; to = old.to })

-- samples from `from` on of a piece, and the direction of each of them on its line
pub record IsTurnOn (f : Fringe) (piece : Piece) (from : ℕ) (turn : Turn) : Type 0 where
  pub begins : turn.from ≡ from
  pub after : from < turn.to
  pub within : turn.to ≤ piece.to
  pub direction : (n : ℕ) → from ≤ n → n < turn.to → turn.direction ≡ facing_of f (delay_on piece n)
