use Rattle.std.proofs.Common.{arith}
use Rattle.std.proofs.lemmas.Bool.Decides.{when_true, when_false}
use Rattle.plan_places.proofs.Searched.{searched-low, searched-high}
use Rattle.plan_places.proofs.search.number_up_to.Goals as goal

pub loop-low-preserved-then-is_up_to : goal.loop-low-preserved-then-is_up_to
loop-low-preserved-then-is_up_to c =
    searched-low _ _ _ _ c.loop-low.low c.loop-low.high _ c.epoch.result c.epochs-high.ensures.cover c.loop-low.invariant
    (omega (arith, c.loop-low-test.true)) c.epoch.ensures.at (when_true _ _ c.if-is_up_to.true c.is_up_to.ensures)

pub loop-low-preserved : goal.loop-low-preserved
loop-low-preserved c =
    searched-high _ _ _ _ c.loop-low.low c.loop-low.high _ c.epoch.result c.epochs-high.ensures.cover c.loop-low.invariant
    (omega arith) (omega (arith, c.loop-low-test.true)) c.epoch.ensures.at (when_false _ _ c.if-is_up_to.false c.is_up_to.ensures)
