-- The sum so far.
use Rattle.std.proofs.Common.{◌≡◌}
use Rattle.byte_lags.specs.Streams.{window}
use Rattle.byte_lags.proofs.product.stretch_sum.Given as goal

abbrev pub invariant-loop-i : goal.invariant-loop-i
invariant-loop-i l = l.sum ≡ window l.bytes l.at l.i
