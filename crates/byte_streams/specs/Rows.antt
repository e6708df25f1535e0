-- The values of a row of samples, by streams or by levels of one direction.
use Rattle.std.specs.Prelude.{ℕ, ℤ, ◌*ℤ◌, Some, length, slice_index}
use Rattle.byte_lags.specs.declared.product.Stream.{Stream}
use Rattle.corr_model.specs.Cell.{Value}
use Rattle.byte_streams.specs.Values.{component}
use Rattle.byte_streams.specs.Streams.{value_in}
use Rattle.byte_streams.specs.declared.row.Levels.{Levels}
use Rattle.byte_streams.specs.declared.row.Row.{Row}
use Rattle.byte_streams.specs.declared.row.Row.TheVariants.{Turning, Still}

-- the number that a byte of a stream stands for
abbrev pub number_in : Stream → ℕ → ℤ
number_in s k = component s.bias (slice_index s.bytes.now k)

-- the value of a level
abbrev pub level_value : Levels → ℕ → Value
level_value s k = Some (s.direction.re *ℤ number_in s.level k, s.direction.im *ℤ number_in s.level k)

-- the value at a place
abbrev pub row_value : Row → ℕ → Value
row_value (Turning s) = value_in s
row_value (Still s) = level_value s

-- how many there are
abbrev pub row_len : Row → ℕ
row_len (Turning s) = length s.there.now
row_len (Still s) = length s.level.bytes.now

abbrev pub bias_in : Row → ℕ
bias_in (Turning s) = s.bias
bias_in (Still s) = s.level.bias
