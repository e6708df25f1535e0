-- The lags of a cell's neighbours.
use Rattle.std.specs.Prelude.{ℕ, ◌/◌, ℤ, pos, ◌-ℤ◌}

-- the lags from -L/2 to L/2 - 1
abbrev pub lag_of : ℕ → ℕ → ℤ
lag_of lags i = pos i -ℤ pos (lags / 2)
