-- Buffers whose front was read.
use Rattle.std.specs.Prelude.{◌≡◌, ℕ, ◌+◌, ◌-◌, ◌≤◌, min, List, length, take}

-- the first n of these bytes, of which there are as many, stand at the buffer's front
pub record HasFront (bytes : List ℕ) (n : ℕ) (buf : List ℕ) : Type 0 where
  pub within : n ≤ length bytes
  pub front : take n buf ≡ take n bytes

-- n more of these bytes stand in the buffer behind the first `done`, as many as there are and fit
pub record ReadsOn (bytes : List ℕ) (done : ℕ) (old : List ℕ) (n : ℕ) (new : List ℕ) : Type 0 where
  pub count : n ≡ min (length old - done) (length bytes - done)
  pub front : take done old ≡ take done bytes → take (done + n) new ≡ take (done + n) bytes

-- the first n of these bytes stand at the buffer's front, as many as there are and fit
pub record ReadsFront (bytes : List ℕ) (n : ℕ) (buf : List ℕ) : Type 0 where
  pub count : n ≡ min (length buf) (length bytes)
  pub front : take n buf ≡ take n bytes
