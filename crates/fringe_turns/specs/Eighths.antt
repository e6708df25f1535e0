-- How a delay turns in eighths of a turn.
use Rattle.std.specs.Prelude.{◌≡◌, ℕ, ◌+◌, ◌*◌, ◌^◌, ◌≤◌, Bool, true, false, ℤ, pos, ◌+ℤ◌, ◌-ℤ◌}
use Rattle.std.specs.Int.{int_div_euclid, int_rem_euclid}
use Rattle.fringe_rotator.specs.Sector.{turn_of}
use Rattle.corr_model.specs.Rotated.{Band}
use Rattle.fringe_turns.specs.declared.fringe.Fringe.{Fringe}
use Rattle.fringe_turns.specs.declared.fringe.Facing.{Facing}
use Rattle.fringe_turns.specs.Direction.{direction_of}

abbrev pub band_of : Fringe → Band
band_of f = record { hertz = f.hertz; upper = f.upper }

-- the direction of a delay in the band of a fringe
abbrev pub facing_of : Fringe → ℤ → ℕ
facing_of f delay = direction_of (band_of f) f.rate delay

-- The turn of a delay and a sixteenth of a turn, in units of which an eighth of a turn has 2^33 times the rate.
abbrev pub ahead_of : Fringe → ℤ → ℤ
ahead_of f delay = turn_of f.hertz f.upper delay +ℤ pos (f.rate * 2 ^ 32)

-- the eighths of a turn, rounded to the nearest
abbrev pub eighths_of : Fringe → ℤ → ℤ
eighths_of f delay = int_div_euclid (ahead_of f delay) (pos (f.rate * 2 ^ 33))

-- the direction of a delay, how far it is past the first turn of this direction, and before the last
pub record IsFacing (f : Fringe) (delay : ℤ) (facing : Facing) : Type 0 where
  pub direction : facing.direction ≡ facing_of f delay
  pub past : int_rem_euclid (ahead_of f delay) (pos (f.rate * 2 ^ 33)) ≡ pos facing.past
  pub left : facing.past + facing.left + 1 ≡ f.rate * 2 ^ 33

-- a delay that rises, or else falls, by at most so much has the same direction
abbrev pub IsRoom : Band → ℕ → ℤ → Bool → ℕ → Type 0
IsRoom band rate delay true room = (j : ℕ) → j ≤ room → direction_of band rate (delay +ℤ pos j) ≡ direction_of band rate delay
IsRoom band rate delay false room = (j : ℕ) → j ≤ room → direction_of band rate (delay -ℤ pos j) ≡ direction_of band rate delay
