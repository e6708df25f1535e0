use Rattle.std.specs.Prelude.{IfSome}
use Rattle.std.proofs.Common.{◌≡◌, ℕ, ◌<◌, ◌+ℤ◌, ◌-ℤ◌, pos, get_or, None}
use Rattle.corr_model.specs.Cell.{AreSmall}
use Rattle.lag_kernel.specs.Held.{value_inside}
use Rattle.lag_kernel.proofs.block.fetch.Given as goal

abbrev pub invariant-loop-k : goal.invariant-loop-k
invariant-loop-k g l = record {
  values : (j : ℕ) → j < l.k → get_or l.held j None ≡ value_inside (g.V.Values.samples l.v) l.station l.chan l.samples ((pos l.at -ℤ pos l.back) +ℤ pos j);
  small : (j : ℕ) → j < l.k → IfSome (get_or l.held j None) AreSmall;
}
