-- The sector of a fringe phase. The phase is counted in sixteenths of a turn.
use Rattle.std.specs.Prelude.{ℕ, ◌*◌, ◌^◌, Bool, true, false, ℤ, pos, negsuc, ◌*ℤ◌}
use Rattle.std.specs.Int.{int_div_euclid, int_rem_euclid}

-- the sign of a sideband: the lower one turns the other way round
abbrev pub sign_of : Bool → ℤ
sign_of true = pos 1
sign_of false = negsuc 0

-- The turn of a sky frequency F in hertz over a delay D in units of 2^-32 sample, 16 * s * F * D. A second of
-- R samples has R * 2^32 of these units, so this is the phase in sixteenths of a turn times R * 2^32.
abbrev pub turn_of : ℕ → Bool → ℤ → ℤ
turn_of hertz upper delay = sign_of upper *ℤ (pos (16 * hertz) *ℤ delay)

-- the whole sixteenths of that turn, floor (16 * s * F * D / (R * 2^32))
abbrev pub sixteenths_of : ℕ → Bool → ℤ → ℕ → ℤ
sixteenths_of hertz upper delay rate =
    int_div_euclid (turn_of hertz upper delay) (pos (rate * 2 ^ 32))

-- the sector, which is their place within a turn of sixteen
abbrev pub sector_of : ℕ → Bool → ℤ → ℕ → ℤ
sector_of hertz upper delay rate = int_rem_euclid (sixteenths_of hertz upper delay rate) (pos 16)
