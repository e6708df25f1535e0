-- The rotated values of a channel (Thompson, Moran and Swenson, chapters 8 and 9).
use Rattle.std.specs.Prelude.{ℕ, ℤ, pos, ◌+ℤ◌, ◌*ℤ◌, unsigned_abs, Bool, Option, option_map}
use Rattle.fringe_rotator.specs.Sector.{sector_of}
use Rattle.fringe_rotator.specs.Table.{cos3, sin3}
use Rattle.corr_model.specs.Delay.{DelayModel, delay_at, whole_at}
use Rattle.corr_model.specs.Cell.{Value}

-- a channel's sky frequency in hertz, and whether it is the upper sideband
pub record Band : Type 0 where
  pub hertz : ℕ
  pub upper : Bool

-- a level turned by a sector
abbrev pub turned : ℤ → ℕ → ℤ × ℤ
turned level sector = (level *ℤ cos3 sector, level *ℤ sin3 sector)

-- the sector of a delay in a band, at `rate` samples a second
abbrev pub band_sector : Band → ℕ → ℤ → ℕ
band_sector band rate delay = unsigned_abs (sector_of band.hertz band.upper delay rate)

-- The value of a channel at sample n: the recording's sample as many samples on as the whole delay at n says,
-- turned by the sector of the delay at n. It is none where the recording has no such sample.
unfoldable pub value_at : (ℤ → Option ℤ) → DelayModel → Band → ℕ → Value
value_at sample m band n =
    option_map (λ level. turned level (band_sector band m.rate (delay_at m n))) (sample (pos n +ℤ whole_at m n))
