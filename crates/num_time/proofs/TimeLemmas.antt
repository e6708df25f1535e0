-- A time's text.
use Rattle.std.proofs.Common.{◌≡◌, ◌==◌, refl, subst, ◌≤ℤ◌, ℕ, ◌-◌, ◌^◌, ◌≤◌, ◌<◌, min, Bool, true, false, List, length, drop, arith, ap, ◌∙◌, length-take, length-drop, ℤ, pos, ◌+ℤ◌, ◌*ℤ◌, FitsSigned, w32, w64, to_z, of_z}
use Rattle.std.proofs.lemmas.Int.{ints, to_z-of_z}
use Rattle.std.proofs.lemmas.Int.Digits.{digits_value-lt}
use Rattle.std.proofs.Math.Nat.{pow-le-pow_right}
use Rattle.std.proofs.lemmas.Bool.Decides.{nat_tests}
use Rattle.std.specs.Int.{is_in_range}
use Rattle.jiff_core.specs.Calendar.{IsEpochDay, days_in_year, day_count, days_from_civil}
use Rattle.jiff_core.specs.Date.{epoch_day, ordinal}
use Rattle.jiff_core.specs.declared.civil.date.Date.{Date}
use Rattle.jiff_core.proofs.DateLemmas.{epoch_day-ordinal}
use Rattle.jiff_core.proofs.MarchLemmas.{day_count-early}
use Rattle.jiff_core.proofs.CalendarLemmas.{day_count-later_year}
use Rattle.std.specs.List.{slice_range}
use Rattle.num_time.specs.Times.{digits_at, number_at, day_second}
use Rattle.num_time.proofs.DigitLemmas.{AllDigits-are_digits}

-- some digits write less than their power of ten
pub number_at-lt : (text : List ℕ) (a b : ℕ) → a ≤ b → b ≤ length text → digits_at text a b ≡ true → number_at text a b < 10 ^ (b - a)
unfolding number_at digits_at
number_at-lt text a b h k d =
    let long : length (slice_range text a b) ≡ b - a = omega (arith, length-take (b - a) (drop a text), length-drop a text) in
    let less = digits_value-lt 10 (slice_range text a b) (AllDigits-are_digits _ d) in
    rw long at less

-- up to four digits are read as they are
pub read_four : (r n k : ℕ) → r ≡ min n (2 ^ 64 - 1) → n < 10 ^ k → k ≤ 4 → (r ≡ n) × (r < 10000)
read_four r n k e h f =
    let most : 10 ^ k ≤ 10 ^ 4 = let ten : 0 < 10 = omega arith in pow-le-pow_right ten f in
    (omega (arith, e, h, most), omega (arith, e, h, most))

-- a year has the days from 1 to its number of days
pub has_day-from : (year day days : ℕ) → 1 ≤ day → day ≤ days → is_in_range 1 days day ≡ true
has_day-from year day days p q = grind (arith, nat_tests)

before_one : (z start : ℤ) (day : ℕ) → z +ℤ pos 1 ≡ start +ℤ pos day → 1 ≤ day → z ≡ start +ℤ pos (day - 1)
before_one z start day e h = omega (arith, ints, e, h)

-- the day number of a date, by its year and its place there
pub epoch_day-day : (date : Date) (year day : ℕ) → date.year ≡ pos year → pos (ordinal date) ≡ pos day → 1 ≤ day
    → epoch_day date ≡ days_from_civil (pos year) 1 1 +ℤ pos (day - 1)
epoch_day-day date year day y d some =
    let start : ℤ = days_from_civil (pos year) 1 1 in
    let next : epoch_day date +ℤ pos 1 ≡ start +ℤ pos day =
    epoch_day-ordinal date ∙ ap (λ z. days_from_civil z 1 1 +ℤ pos (ordinal date)) y ∙ ap (λ z. start +ℤ z) d in
    before_one (epoch_day date) start day next some

-- the seconds of the days before, with each step at 64 bits
pub seconds_of_days : (z f start : ℤ) (day : ℕ) → f ≡ to_z w32 (of_z w32 z) → IsEpochDay z → z ≡ start +ℤ pos (day - 1)
    → to_z w64 (of_z w64 (pos 86400 *ℤ to_z w64 (of_z w64 f))) ≡ pos 86400 *ℤ (start +ℤ pos (day - 1))
seconds_of_days z f start day e b is =
    let fz : FitsSigned w32 z = omega (arith, ints, b.0, b.1) in
    let same : f ≡ z = e ∙ to_z-of_z w32 z fz in
    let ff : FitsSigned w64 z = omega (arith, ints, b.0, b.1) in
    let whole : FitsSigned w64 (pos 86400 *ℤ z) = omega (arith, ints, b.0, b.1) in
    rw same (simp to_z-of_z (ap (λ x. pos 86400 *ℤ x) is))

first_day_1970 : day_count (pos 1970) 1 1 ≡ 4371953
first_day_1970 = day_count-early _ 11969 1 1 refl (omega arith) (omega arith) (omega arith)

first_day_2100 : day_count (pos 2100) 1 1 ≡ 4419435
first_day_2100 = day_count-early _ 12099 1 1 refl (omega arith) (omega arith) (omega arith)

-- a year from 1970 on begins on its first day or later
from_1970 : (year : ℕ) → 1970 ≤ year → 4371953 ≤ day_count (pos year) 1 1
from_1970 year h = by (1970 == year) refl
  where
    by : (b : Bool) → (1970 == year) ≡ b → 4371953 ≤ day_count (pos year) 1 1
    by true same = let e : 1970 ≡ year = grind (arith, nat_tests, same) in subst (λ y. 4371953 ≤ day_count (pos y) 1 1) e (omega (arith, first_day_1970))
    by false other =
        let lt : 1970 < year = grind (arith, nat_tests, other) in
        omega (arith, first_day_1970, day_count-later_year (pos 1970) (pos year) (omega (arith, ints)) (omega (arith, ints)))

-- the seconds of the years 1970 to 2099 begin no day before 1970 and none after 2099-12-31
pub day_second-bounds : (year day days : ℕ) → 1970 ≤ year → year ≤ 2099 → 1 ≤ day → day ≤ days → days ≡ days_in_year (pos year)
    → (pos 0 ≤ℤ day_second year day) × (day_second year day ≤ℤ pos 4102358400)
unfolding days_from_civil
day_second-bounds year day days low high some h e =
    let late = day_count-later_year (pos year) (pos 2100) (omega (arith, ints)) (omega (arith, ints)) in
    let first = from_1970 year low in
    (omega (arith, ints, first_day_1970), omega (arith, ints, first_day_1970, first_day_2100))
