-- Values as bytes: each component with a bias, which makes it positive, and 1 where there is a value.
use Rattle.std.specs.Prelude.{◌≡◌, ℕ, ◌*◌, ◌<◌, ◌≤◌, ◌==◌, ℤ, pos, ◌-ℤ◌, List, length, slice_index, Some, None, if◌then◌else◌}
use Rattle.byte_sums.specs.Sums.{AreAtMost}
use Rattle.corr_model.specs.Cell.{Value}

-- the components of a value, 0 where there is none
abbrev pub re_of : Value → ℤ
re_of (Some v) = v.0
re_of None = pos 0

abbrev pub im_of : Value → ℤ
im_of (Some v) = v.1
im_of None = pos 0

-- 1 where there is a value
abbrev pub there_of : Value → ℕ
there_of (Some v) = 1
there_of None = 0

-- the number that a byte stands for
abbrev pub component : ℕ → ℕ → ℤ
component bias byte = pos byte -ℤ pos bias

-- the value of a byte of each stream
abbrev pub byte_value : ℕ → ℕ → ℕ → ℕ → Value
byte_value bias re im there = if there == 0 then None else Some (component bias re, component bias im)

-- The streams of values: their real and imaginary components and where there are values. A value that is not there has the
-- components 0.
pub record AreStreams (bias : ℕ) (r i t : List ℕ) : Type 0 where
  pub low : bias ≤ 15
  pub long_re : length r ≡ length t
  pub long_im : length i ≡ length t
  pub re : AreAtMost (2 * bias) r
  pub im : AreAtMost (2 * bias) i
  pub there : AreAtMost 1 t
  pub none : (k : ℕ) → k < length t → slice_index t k ≡ 0 → (slice_index r k ≡ bias) × (slice_index i k ≡ bias)
