-- What the fields behind a word say, none where they say nothing that is in its range.
use Rattle.std.specs.Prelude.{ℕ, ◌^◌, ℤ, pos, negsuc, Bool, ◌&&◌, nat_le, nat_lt, if◌then◌else◌, List, [], ◌∷◌, length, slice_index_or, Option, Some, None, option_and_then}
use Rattle.std.specs.Result.{result_ok}
use Rattle.num_time.specs.Numerals.{decimal_of}
use Rattle.num_time.specs.Times.{vex_second_of}
use Rattle.delay_poly.specs.Nested.{magnitude}
use Rattle.delay_poly.specs.declared.entry.PolyEntry.{PolyEntry}

infixl 10 ◌>>=◌
abbrev pub ◌>>=◌ : {A B : Type 0} → Option A → (A → Option B) → Option B
o >>= f = option_and_then f o

-- a field by its place behind the word, counted from 0; one that is not there is empty
abbrev pub field : List (List ℕ) → ℕ → List ℕ
field fields i = slice_index_or fields i []

-- the whole number that a text says, and the second that a time names
unfoldable pub whole_of : List ℕ → Option ℤ
whole_of text = result_ok (decimal_of text 0)

unfoldable pub second_of : List ℕ → Option ℤ
second_of text = result_ok (vex_second_of text)

-- a number as one from low to high
abbrev pub bounded : ℕ → ℕ → ℤ → Option ℕ
bounded low high (pos n) = if nat_le low n && nat_le n high then Some n else None
bounded low high (negsuc n) = None

-- a text that says a whole number from low to high
unfoldable pub number_within : ℕ → ℕ → List ℕ → Option ℕ
number_within low high text = whole_of text >>= bounded low high

-- the whole numbers that some texts say, none where one says none
abbrev pub wholes_of : List (List ℕ) → Option (List ℤ)
wholes_of [] = Some []
wholes_of (text ∷ texts) = do
  n ← whole_of text
  more ← wholes_of texts
  Some (n ∷ more)

-- one to six coefficients, whose magnitudes together are below 2 ^ 58
abbrev pub is_poly : List ℤ → Bool
is_poly coeffs = nat_lt 0 (length coeffs) && (nat_le (length coeffs) 6 && nat_lt (magnitude coeffs) (2 ^ 58))

-- the polynomial from a time on, by the texts of its coefficients
abbrev pub poly_from : List ℕ → List (List ℕ) → Option PolyEntry
poly_from time texts = do
  second ← second_of time
  coeffs ← wholes_of texts
  if is_poly coeffs then Some (record { second = second; poly = coeffs }) else None
