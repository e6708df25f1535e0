-- A number in text: an optional sign, then decimal digits with at most one point before, among or behind them.
use Rattle.std.specs.Prelude.{ℕ, ◌-◌, ◌^◌, Bool, not, ◌&&◌, ◌||◌, ◌==◌, nat_le, List, ◌++◌, length, take, drop, replicate, if◌then◌else◌, ℤ, pos, neg_ℤ, Result, Ok, Err}
use Rattle.std.specs.Char.{is_ascii_digit}
use Rattle.std.specs.List.{list_all, before_first, after_first, slice_index}
use Rattle.std.specs.Str.Parse.{digits_value}
use Rattle.num_time.specs.declared.numerals.NumFault.{NumFault}
use Rattle.num_time.specs.declared.numerals.NumFault.TheVariants.{NotNumber, TooManyPlaces, TooLarge}

-- the byte of a point, and of a zero
abbrev pub is_point : ℕ → Bool
is_point c = c == 46

abbrev pub is_zero : ℕ → Bool
is_zero c = c == 48

-- each byte is a digit
abbrev pub are_digits : List ℕ → Bool
are_digits text = list_all is_ascii_digit text

-- a minus stands first
abbrev pub is_negative : List ℕ → Bool
is_negative text = slice_index text 0 == 45

-- the text behind its sign, 43 a plus and 45 a minus
abbrev pub without_sign : List ℕ → List ℕ
without_sign text = if (slice_index text 0 == 43) || (slice_index text 0 == 45) then drop 1 text else text

-- what stands before the first point, or all where there is none, and what stands behind it
abbrev pub front_of : List ℕ → List ℕ
front_of text = before_first is_point (without_sign text)

abbrev pub back_of : List ℕ → List ℕ
back_of text = after_first is_point (without_sign text)

-- digits stand before and behind the point, one at least
unfoldable pub is_number : List ℕ → Bool
is_number text =
    are_digits (front_of text) && are_digits (back_of text)
    && not ((length (front_of text) == 0) && (length (back_of text) == 0))

-- the digits that stand before the point once it is moved on by `places`, with zeros where there are none
unfoldable pub moved_digits : List ℕ → List ℕ → ℕ → List ℕ
moved_digits front back places = front ++ (take places back ++ replicate (places - length back) 48)

-- the number that front and back write, times 10 ^ places, or the first fault: a digit other than zero
-- behind those places, or a magnitude of 2 ^ 62 or more
unfoldable pub scaled : Bool → List ℕ → List ℕ → ℕ → Result ℤ NumFault
scaled negative front back places =
    let magnitude = digits_value 10 (moved_digits front back places) in
    if not (list_all is_zero (drop places back)) then Err TooManyPlaces
    else if nat_le (2 ^ 62) magnitude then Err TooLarge
    else Ok (if negative then neg_ℤ (pos magnitude) else pos magnitude)

-- what a text says as a number, times 10 ^ places
unfoldable pub decimal_of : List ℕ → ℕ → Result ℤ NumFault
decimal_of text places =
    if not (is_number text) then Err NotNumber
    else scaled (is_negative text) (front_of text) (back_of text) places
