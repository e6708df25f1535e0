use Rattle.std.specs.Prelude.{IfSome}
use Rattle.std.proofs.Common.{◌≡◌, ◌<◌, ◌+ℤ◌, ◌-ℤ◌, pos, None, sym, subst}
use Rattle.corr_model.specs.Cell.{AreSmall}
use Rattle.lag_kernel.specs.Held.{value_inside}
use Rattle.lag_kernel.proofs.HeldLemmas.{put_more}
use Rattle.lag_kernel.proofs.block.fetch.Goals as goal

pub loop-k-preserved : goal.loop-k-preserved
loop-k-preserved g c = record {
  values =
      put_more (λ j v. v ≡ value_inside (g.V.Values.samples c.args.v.now) c.args.station c.args.chan c.args.samples ((pos c.args.at -ℤ pos c.args.back) +ℤ pos j))
      c.loop-k.held c.loop-k.k c.value_at.result None (subst (λ n. c.loop-k.k < n) (sym c.loop-k.auto.held) c.loop-k-test.true) c.loop-k.invariant.values c.value_at.ensures.value;
  small =
      put_more (λ j v. IfSome v AreSmall)
      c.loop-k.held c.loop-k.k c.value_at.result None (subst (λ n. c.loop-k.k < n) (sym c.loop-k.auto.held) c.loop-k-test.true) c.loop-k.invariant.small c.value_at.ensures.small;
}
