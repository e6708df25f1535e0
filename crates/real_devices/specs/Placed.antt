-- Single reads and writes of a file at a place.
use Rattle.std.specs.Prelude.{◌≡◌, ◌<◌, ◌≤◌, ℕ, ◌+◌, ◌-◌, List, length, take, drop}

-- The front of a buffer has the `n` bytes of a file that stand from the byte `at` on, and behind them the
-- buffer is as it was.
pub record HasRead (bytes : List ℕ) (at : ℕ) (old : List ℕ) (n : ℕ) (new : List ℕ) : Type 0 where
  pub there : n ≤ length bytes - at
  pub front : take n new ≡ take n (drop at bytes)
  pub behind : drop n new ≡ drop n old

-- A single read may give fewer bytes than there are and fit, and gives none only where the file ends at
-- the place or before it, or nothing fits.
pub record ReadsSome (bytes : List ℕ) (at : ℕ) (old : List ℕ) (n : ℕ) (new : List ℕ) : Type 0 where
  pub has : HasRead bytes at old n new
  pub some : at < length bytes → 0 < length old → 0 < n

-- A read that goes on in the buffer behind the first `done` bytes, which came from the byte `at` on.
pub record ReadsOn (bytes : List ℕ) (at done : ℕ) (old : List ℕ) (n : ℕ) (new : List ℕ) : Type 0 where
  pub on : (first : List ℕ) → HasRead bytes at first done old → HasRead bytes at first (done + n) new
  pub some : at + done < length bytes → done < length old → 0 < n
