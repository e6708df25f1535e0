-- Whole quotients, and seconds of the calendar. A second is counted from 00:00 of 1 January 1970, with days of 86,400.
use Rattle.std.specs.Prelude.{ℕ, ◌+◌, ◌/◌, ◌%◌, ◌==◌, if◌then◌else◌, ℤ, pos, ◌*ℤ◌}
use Rattle.std.specs.Int.{int_div_euclid}
use Rattle.jiff_core.specs.Calendar.{days_from_civil}

-- the month in which a reference epoch begins: January where its number is even, else July
abbrev pub epoch_month : ℕ → ℕ
epoch_month e = if e % 2 == 0 then 1 else 7

-- the second at which reference epoch e begins, two epochs to a year from 2000 on (VDIF 1.1.1, reference epochs)
abbrev pub epoch_second_of : ℕ → ℤ
epoch_second_of e = pos 86400 *ℤ days_from_civil (pos (2000 + e / 2)) (epoch_month e) 1

-- the greatest whole number that is not above a / b, for a positive b
abbrev pub floor_of : ℤ → ℤ → ℤ
floor_of a b = int_div_euclid a b
