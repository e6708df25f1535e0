-- Stretches of a file.
use Rattle.std.specs.Prelude.{ℕ, ◌-◌, min, List, ◌++◌, length, take, drop, replicate}

-- how many bytes there are from byte `at` on, `len` at most
abbrev pub count_from : ℕ → ℕ → List ℕ → ℕ
count_from at len bytes = min len (length bytes - at)

-- the first `len` of the bytes from byte `at` on, and zeros behind them up to `len`
abbrev pub stretch : ℕ → ℕ → List ℕ → List ℕ
stretch at len bytes = take len (drop at bytes) ++ replicate (len - length (drop at bytes)) 0
