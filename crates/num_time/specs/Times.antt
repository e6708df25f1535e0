-- A time as a schedule in VEX writes it: year, day of the year, hour, minute and second, as 2010y113d20h29m00s.
use Rattle.std.specs.Prelude.{ℕ, ◌+◌, ◌-◌, ◌*◌, Bool, not, ◌&&◌, ◌||◌, ◌==◌, nat_le, ◌≤ℤ◌, ◌<ℤ◌, List, length, drop, if◌then◌else◌, ℤ, pos, ◌+ℤ◌, ◌*ℤ◌, Result, Ok, Err}
use Rattle.std.specs.Int.{is_in_range}
use Rattle.std.specs.List.{list_all, slice_index, slice_range}
use Rattle.std.specs.Str.Parse.{digits_value}
use Rattle.jiff_core.specs.Calendar.{days_in_year, days_from_civil}
use Rattle.num_time.specs.Numerals.{are_digits, is_zero}
use Rattle.num_time.specs.declared.times.TimeFault.{TimeFault}
use Rattle.num_time.specs.declared.times.TimeFault.TheVariants.{Shape, DayOfYear, TimeOfDay}

-- digits stand at the places from a up to b, and the number that they write
unfoldable pub digits_at : List ℕ → ℕ → ℕ → Bool
digits_at text a b = are_digits (slice_range text a b)

unfoldable pub number_at : List ℕ → ℕ → ℕ → ℕ
number_at text a b = digits_value 10 (slice_range text a b)

abbrev pub year_of : List ℕ → ℕ
year_of text = number_at text 0 4

abbrev pub day_of : List ℕ → ℕ
day_of text = number_at text 5 8

abbrev pub hour_of : List ℕ → ℕ
hour_of text = number_at text 9 11

abbrev pub minute_of : List ℕ → ℕ
minute_of text = number_at text 12 14

abbrev pub second_of : List ℕ → ℕ
second_of text = number_at text 15 17

-- the text begins as 0000y000d00h00m00 does, with any digit for a 0
unfoldable pub has_form : List ℕ → Bool
has_form text =
    digits_at text 0 4 && (slice_index text 4 == 121) && digits_at text 5 8 && (slice_index text 8 == 100)
    && digits_at text 9 11 && (slice_index text 11 == 104) && digits_at text 12 14 && (slice_index text 14 == 109)
    && digits_at text 15 17

-- the end of a time: an s, or a point, one or more zeros and an s
unfoldable pub is_end : List ℕ → Bool
is_end rest =
    ((length rest == 1) && (slice_index rest 0 == 115))
    || (nat_le 3 (length rest) && (slice_index rest 0 == 46) && list_all is_zero (slice_range rest 1 (length rest - 1))
    && (slice_index rest (length rest - 1) == 115))

-- the years of which there are times
abbrev pub is_time_year : ℕ → Bool
is_time_year year = nat_le 1970 year && nat_le year 2099

-- the text has the shape of a time of these years
unfoldable pub is_time : List ℕ → Bool
is_time text =
    nat_le 17 (length text) && has_form text && is_end (drop 17 text) && is_time_year (year_of text)

-- the year has a day of this number
abbrev pub has_day : ℕ → ℕ → Bool
has_day year day = is_in_range 1 (days_in_year (pos year)) day

-- the second at which a day of a year begins, counted from 00:00 of 1 January 1970
abbrev pub day_second : ℕ → ℕ → ℤ
day_second year day = pos 86400 *ℤ (days_from_civil (pos year) 1 1 +ℤ pos (day - 1))

-- a day has this time
abbrev pub is_time_of_day : ℕ → ℕ → ℕ → Bool
is_time_of_day hour minute second = nat_le hour 23 && nat_le minute 59 && nat_le second 59

-- the second of a time, or the first fault
unfoldable pub second_at : ℕ → ℕ → ℕ → ℕ → ℕ → Result ℤ TimeFault
second_at year day hour minute second =
    if not (has_day year day) then Err DayOfYear
    else if not (is_time_of_day hour minute second) then Err TimeOfDay
    else Ok (day_second year day +ℤ pos (3600 * hour + 60 * minute + second))

-- the second that a text names, or the first fault
unfoldable pub vex_second_of : List ℕ → Result ℤ TimeFault
vex_second_of text =
    if not (is_time text) then Err Shape
    else second_at (year_of text) (day_of text) (hour_of text) (minute_of text) (second_of text)

-- a second of the years 1970 to 2099
pub record IsSecond (second : ℤ) : Type 0 where
  pub from_1970 : pos 0 ≤ℤ second
  pub to_2099 : second <ℤ pos 4102444800
