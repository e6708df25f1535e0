-- Levels and their direction.
use Rattle.std.specs.Prelude.{◌*◌, ◌≤◌}
use Rattle.byte_sums.specs.Sums.{AreAtMost}
use Rattle.byte_lags.specs.Streams.{IsUnit}
use Rattle.byte_lags.specs.declared.product.Stream.{Stream}
use Rattle.byte_lags.specs.declared.product.Weights.{Weights}

-- as large as those of components, and -1, 0 or 1 times in the real part and in the imaginary one
pub record AreLevels (level : Stream) (direction : Weights) : Type 0 where
  pub low : level.bias ≤ 15
  pub small : AreAtMost (2 * level.bias) level.bytes.now
  pub unit_re : IsUnit direction.re
  pub unit_im : IsUnit direction.im
