use Rattle.std.proofs.Common.{arith}
use Rattle.plan_places.specs.Places.{place_at}
use Rattle.journal_image.proofs.RangeLemmas.{longest-IsRange, longest-IsOfPlan, longest-none}
use Rattle.journal_image.proofs.range.epoch_to.Goals as goal

pub returns-then-to-at-clause-none : goal.returns-then-to-at-clause-none
returns-then-to-at-clause-none c =
    longest-none c.args.plan.now (place_at c.args.at.now) c.args.to c.cut-longest.result c.requires c.cut-longest.ensures.cut c.then-to-at.either

pub returns-clause-some : goal.returns-clause-some
returns-clause-some c =
    longest-IsRange c.args.plan.now (place_at c.args.at.now) c.args.to c.cut-longest.result c.requires c.cut-longest.ensures.cut
    (omega (arith, c.if-to-at.false)) (omega (arith, c.if-longest-to.false))

pub returns-clause-of_plan : goal.returns-clause-of_plan
returns-clause-of_plan c =
    longest-IsOfPlan c.args.plan.now (place_at c.args.at.now) c.args.to c.cut-longest.result c.requires c.cut-longest.ensures.cut c.cut-longest.ensures.of_plan
    (omega (arith, c.if-to-at.false)) (omega (arith, c.if-longest-to.false))
