-- The bytes of a VEX text, and where they stand.
use Rattle.std.specs.Prelude.{◌≡◌, ◌⊎◌, ℕ, ◌<◌, ◌≤◌, List, ◌++◌, length, drop, slice_index}

-- Line ends, tabs and the space.
abbrev pub IsWhite : ℕ → Type 0
IsWhite byte = ((9 ≤ byte) × (byte ≤ 13)) ⊎ (byte ≡ 32)

-- White space, `=`, `:` or `;`: what no tag of a literal has.
abbrev pub IsSeparator : ℕ → Type 0
IsSeparator byte = IsWhite byte ⊎ ((byte ≡ 61) ⊎ ((byte ≡ 58) ⊎ (byte ≡ 59)))

-- A separator, or the `*` of a comment: what no word goes on through.
abbrev pub EndsWord : ℕ → Type 0
EndsWord byte = IsSeparator byte ⊎ (byte ≡ 42)

-- A control character of ASCII that is not white space: what stands only in comments, quoted texts
-- and literals.
abbrev pub IsControl : ℕ → Type 0
IsControl byte = ((byte < 32) × (¬ IsWhite byte)) ⊎ (byte ≡ 127)

-- The place is within the text, and its byte has the property.
abbrev pub IsAt : (ℕ → Type 0) → List ℕ → ℕ → Type 0
IsAt property text place = (place < length text) × property (slice_index text place)

-- This byte stands at the place.
abbrev pub HasByte : ℕ → List ℕ → ℕ → Type 0
HasByte byte = IsAt (λ found. found ≡ byte)

-- The text goes on with these bytes from the place on.
abbrev pub HasBytes : List ℕ → List ℕ → ℕ → Type 0
HasBytes bytes text place = (rest : List ℕ) × (drop place text ≡ bytes ++ rest)
