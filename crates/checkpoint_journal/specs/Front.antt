-- The front of a file, compared with the identity of a job in parts.
use Rattle.std.specs.Prelude.{◌≡◌, ◌⊎◌, ℕ, ◌+◌, ◌-◌, ◌<◌, ◌≤◌, ◌^◌, true, List, length, slice_index, Option, Some, None, IfSome}
use Rattle.journal_image.specs.declared.difference.Differs.{Differs}
use Rattle.journal_image.specs.Image.{is_blank}
use Rattle.journal_image.specs.Difference.{IsOfFront}

-- a byte at place k of an identity is this one, or, for the version, an old journal's
abbrev pub IsOursByte : ℕ → ℕ → ℕ → Type 0
IsOursByte k byte ours = (byte ≡ ours) ⊎ ((k ≡ 7) × (byte ≡ 49))

-- byte k of the identity, or of an old journal's, stands behind the head gate
abbrev pub IsOursAt : List ℕ → List ℕ → ℕ → Type 0
IsOursAt id image k = IsOursByte k (slice_index image (1 + k)) (slice_index id k)

-- the first n bytes do
pub record OursTo (id image : List ℕ) (n : ℕ) : Type 0 where
  pub within : n ≤ length id
  pub room : n < length image
  pub same : (k : ℕ) → k < n → IsOursAt id image k

-- those before a place of the file do, and the byte at it does not, or lies past the end
pub record OursUpTo (id image : List ℕ) (at : ℕ) : Type 0 where
  pub some : 1 ≤ at
  pub within : at ≤ length id
  pub before : OursTo id image (at - 1)
  pub other : at < length image → ¬ IsOursAt id image (at - 1)

-- a file whose head gate is open, and its length
pub record IsBegun (image : List ℕ) (len : ℕ) : Type 0 where
  pub length_is : len ≡ length image
  pub is_open : slice_index image 0 ≡ 1

-- the length where it is, or a blank file
abbrev pub FindsHead : List ℕ → Option ℕ → Type 0
FindsHead image None = is_blank image ≡ true
FindsHead image (Some len) = IsBegun image len

-- a length of more than the head gate
abbrev pub IsLong : Option ℕ → Type 0
IsLong len = IfSome len (λ n. (1 < n) × (n < 2 ^ 63))

-- the first place at which the file differs, with the two bytes there, where it does
abbrev pub FindsFirst : List ℕ → List ℕ → Option Differs → Type 0
FindsFirst id image None = OursTo id image (length id)
FindsFirst id image (Some d) = IsOfFront id image d

-- So many bytes of a part, which begins at place `first` of the identity, stand in the image. Behind them stands another
-- byte, or the image or the part ends.
pub record Compares (image : List ℕ) (first : ℕ) (part : List ℕ) (n : ℕ) : Type 0 where
  pub room : first < length image → first + n < length image
  pub same : (k : ℕ) → k < n → IsOursByte (first + k) (slice_index image (1 + first + k)) (slice_index part k)
  pub other : n < length part → 1 + first + n < length image → ¬ IsOursByte (first + n) (slice_index image (1 + first + n)) (slice_index part n)
