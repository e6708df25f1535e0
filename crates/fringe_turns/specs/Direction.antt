-- The directions by which levels are turned, an eighth of a turn apart.
use Rattle.std.specs.Prelude.{ℕ, ◌+◌, ◌/◌, ◌%◌, ℤ}
use Rattle.corr_model.specs.Delay.{DelayModel, delay_at}
use Rattle.corr_model.specs.Rotated.{Band, band_sector}

-- The direction of a delay in a band: sectors 15 and 0 turn by nothing, 1 and 2 by an eighth of a turn, and so on.
abbrev pub direction_of : Band → ℕ → ℤ → ℕ
direction_of band rate delay = (band_sector band rate delay + 1) / 2 % 8

-- the direction of the delay at a sample
abbrev pub direction_at : DelayModel → Band → ℕ → ℕ
direction_at m band n = direction_of band m.rate (delay_at m n)
