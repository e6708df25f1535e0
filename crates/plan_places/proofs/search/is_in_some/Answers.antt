use Rattle.std.proofs.Common.{arith}
use Rattle.plan_places.specs.Places.{place_at}
use Rattle.plan_places.proofs.Orders.{up_to-refl}
use Rattle.plan_places.proofs.Searched.{count-some, count-IsPlace}
use Rattle.plan_places.proofs.search.is_in_some.Goals as goal

pub returns-then-count-eq0 : goal.returns-then-count-eq0
returns-then-count-eq0 c place =
    let some = count-some c.args.plan.now (place_at c.args.at.now) (place_at c.args.at.now) c.number_up_to-count.result c.number_up_to-count.ensures.cover
    place (up_to-refl _) c.number_up_to-count.ensures.count in
    omega (arith, some, c.if-count-eq0.true)

pub returns : goal.returns
returns c =
    count-IsPlace c.args.plan.now (place_at c.args.at.now) c.number_up_to-count.result c.epoch-e.result c.has_place.result
    c.number_up_to-count.ensures.cover c.number_up_to-count.ensures.count c.if-count-eq0.false c.epoch-e.ensures.at c.epoch-e.ensures.inside c.has_place.ensures
