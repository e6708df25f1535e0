-- Quantities: a number and its unit, as a value of a statement writes them.
use Rattle.std.specs.Prelude.{ℕ, ◌*◌, ◌/◌, ◌%◌, ◌^◌, ℤ, pos, negsuc, Bool, not, ◌&&◌, ◌||◌, ◌==◌, nat_lt, if◌then◌else◌, List, [], ◌∷◌, drop, codes, bytes_eq, Option, Some, None, Result, Ok, Err}
use Rattle.std.specs.Char.{is_ascii_digit}
use Rattle.std.specs.List.{before_first, position_or_len}
use Rattle.std.specs.Result.{result_ok}
use Rattle.num_time.specs.Numerals.{decimal_of}
use Rattle.num_time.specs.declared.numerals.NumFault.{NumFault}
use Rattle.vex_schedule.specs.Optional.{◌>>=◌}

-- a byte is none of the characters of a number, which are the digits and the signs + - . with the codes 43, 45 and 46
abbrev pub ends_number : ℕ → Bool
ends_number c = not (is_ascii_digit c || (c == 43) || (c == 45) || (c == 46))

-- a text cut after its longest front of characters of a number
abbrev pub cut : List ℕ → List ℕ × List ℕ
cut text = (before_first ends_number text, drop (position_or_len ends_number text) text)

-- the number and the unit of a quantity, each a word, or both in one word that is cut; a quoted text is neither, since it
-- begins with a quote
unfoldable pub number_and_unit : List (List ℕ) → Option (List ℕ × List ℕ)
number_and_unit [] = None
number_and_unit (text ∷ []) = Some (cut text)
number_and_unit (number ∷ unit ∷ []) = Some (number, unit)
number_and_unit (number ∷ unit ∷ other ∷ more) = None

-- a number that is not negative
abbrev pub natural : Result ℤ NumFault → Option ℕ
natural (Ok (pos n)) = Some n
natural (Ok (negsuc n)) = None
natural (Err e) = None

-- the hertz of a unit of frequency
unfoldable pub hertz_in : List ℕ → Option ℕ
hertz_in unit =
    if bytes_eq unit (codes "Hz") then Some 1
    else if bytes_eq unit (codes "kHz") then Some 1000
    else if bytes_eq unit (codes "MHz") then Some 1000000
    else if bytes_eq unit (codes "GHz") then Some 1000000000
    else None

-- millionths that come to a whole number below 2 ^ 40
unfoldable pub whole_hertz : ℕ → Option ℕ
whole_hertz millionths =
    if (millionths % 1000000 == 0) && nat_lt (millionths / 1000000) (2 ^ 40) then Some (millionths / 1000000) else None

-- a frequency in hertz, written with at most six places
unfoldable pub frequency_of : List (List ℕ) → Option ℕ
frequency_of value = do
  parts ← number_and_unit value
  hertz ← hertz_in parts.1
  millionths ← natural (decimal_of parts.0 6)
  whole_hertz (millionths * hertz)

-- a sample rate in samples a second, written in millions of them with at most six places
unfoldable pub rate_of : List (List ℕ) → Option ℕ
rate_of value = do
  parts ← number_and_unit value
  rate ← natural (decimal_of parts.0 6)
  if bytes_eq parts.1 (codes "Ms/sec") && nat_lt 0 rate && nat_lt rate (2 ^ 32) then Some rate else None

-- an offset from a scan's start in microseconds, written in seconds with at most six places
unfoldable pub offset_of : List (List ℕ) → Option ℤ
offset_of value = do
  parts ← number_and_unit value
  if bytes_eq parts.1 (codes "sec") then result_ok (decimal_of parts.0 6) else None
