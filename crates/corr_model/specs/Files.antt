-- What is read: the files of a shelf.
use Rattle.std.specs.Prelude.{ℕ, List, [], Option, Some, None}

-- what stands under each name
abbrev pub Files : Type 0
Files = List ℕ → Option (List ℕ)

-- the bytes of a file, none where it is not there
abbrev pub bytes_under : Files → List ℕ → List ℕ
bytes_under files name = bytes_or_none (files name)
  where
    bytes_or_none : Option (List ℕ) → List ℕ
    bytes_or_none None = []
    bytes_or_none (Some bytes) = bytes
