-- A file of a shelf: its bytes, or none where the name is not there.
use Rattle.std.specs.Prelude.{◌≡◌, ℕ, ◌-◌, List, [], length, take, drop, min, Option, Some, None}

-- the file's length in bytes
abbrev pub size_of : Option (List ℕ) → Option ℕ
size_of None = None
size_of (Some bytes) = Some (length bytes)

-- the bytes that a read sees: none of a file that is not there
abbrev pub bytes_of : Option (List ℕ) → List ℕ
bytes_of None = []
bytes_of (Some bytes) = bytes

-- A read of `n` bytes from the byte `at` into a buffer: as many as there are and fit. They stand at
-- the buffer's front, and behind them the buffer is as it was.
pub record ReadsAt (file : Option (List ℕ)) (at : ℕ) (old : List ℕ) (n : ℕ) (new : List ℕ) : Type 0 where
  pub count : n ≡ min (length old) (length (bytes_of file) - at)
  pub front : take n new ≡ take n (drop at (bytes_of file))
  pub behind : drop n new ≡ drop n old
