-- The values that streams hold.
use Rattle.std.specs.Prelude.{ℕ, slice_index}
use Rattle.corr_model.specs.Cell.{Value}
use Rattle.byte_streams.specs.Values.{byte_value}
use Rattle.byte_streams.specs.declared.streams.Streams.{Streams}

-- the value at a place, none past the end
abbrev pub value_in : Streams → ℕ → Value
value_in s k = byte_value s.bias (slice_index s.re.now k) (slice_index s.im.now k) (slice_index s.there.now k)
