-- What a call may do to the bytes of a file, and to those that a crash leaves of it.
use Rattle.std.specs.Prelude.{◌<◌, ◌≡◌, ℕ, ◌+◌, ◌-◌, ◌≤◌, max, min, List, ◌++◌, length, take, drop, replicate, slice_index}

-- the file with these bytes from the byte `at` on, and zeros in a gap before them
abbrev pub put_at : ℕ → List ℕ → List ℕ → List ℕ
put_at at bytes old = take at old ++ replicate (at - length old) 0 ++ bytes ++ drop (at + length bytes) old

-- A call that changes nothing: the image is the one of before.
abbrev pub Same : List ℕ → List ℕ → Type 0
Same v image = image ≡ v

-- A write over the bytes from `a` up to `e`, whole or not: the image may have any bytes there and past
-- the end of the one before, and a length from that one's to the greater of it and `e`.
pub record Torn (a e : ℕ) (v image : List ℕ) : Type 0 where
  pub before : (i : ℕ) → i < length v → i < a → slice_index image i ≡ slice_index v i
  pub behind : (i : ℕ) → i < length v → e ≤ i → slice_index image i ≡ slice_index v i
  pub no_shorter : length v ≤ length image
  pub no_longer : length image ≤ max (length v) e

-- A cut to the length `c`, whole or not: the image may have any bytes from `c` on, and a length from `c`
-- to that of the one before. One that is no longer than `c` stays as it is.
pub record Shorn (c : ℕ) (v image : List ℕ) : Type 0 where
  pub front : (i : ℕ) → i < length image → i < c → slice_index image i ≡ slice_index v i
  pub no_shorter : min c (length v) ≤ length image
  pub no_longer : length image ≤ length v
