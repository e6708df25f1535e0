-- The seconds of reference epochs are small.
use Rattle.std.proofs.Common.{ℕ, ◌+◌, ◌*◌, ◌/◌, ◌<◌, ◌≤◌, ◌^◌, ℤ, pos, unsigned_abs, arith}
use Rattle.std.proofs.lemmas.Int.{ints, unsigned_abs-mul}
use Rattle.jiff_core.specs.Calendar.{days_from_civil, IsCivilDate}
use Rattle.jiff_core.proofs.SignedLemmas.{signed_arith}
use Rattle.jiff_core.proofs.CalendarLemmas.{days_from_civil-day_count, day_count_bounds, days_in_month_bounds}
use Rattle.num_time.specs.Numbers.{epoch_month, epoch_second_of}

-- an epoch begins at a date of the calendar
epoch_date : (e : ℕ) → e < 64 → IsCivilDate (pos (2000 + e / 2)) (epoch_month e) 1
epoch_date e h =
    let month : (1 ≤ epoch_month e) × (epoch_month e ≤ 12) = grind arith in
    ((omega (arith, signed_arith), omega (arith, signed_arith)), month, (omega arith, omega (arith, days_in_month_bounds (pos (2000 + e / 2)) (epoch_month e))))

small_day : (y : ℤ) (m : ℕ) → IsCivilDate y m 1 → unsigned_abs (days_from_civil y m 1) ≤ 2 ^ 23
small_day y m h = omega (arith, signed_arith, ints, days_from_civil-day_count y m 1, day_count_bounds y m 1 h)

pub small_epoch : (e : ℕ) → e < 64 → unsigned_abs (epoch_second_of e) ≤ 86400 * 2 ^ 23
small_epoch e h =
    let day = small_day (pos (2000 + e / 2)) (epoch_month e) (epoch_date e h) in
    omega (arith, unsigned_abs-mul (pos 86400) (days_from_civil (pos (2000 + e / 2)) (epoch_month e) 1), day)
