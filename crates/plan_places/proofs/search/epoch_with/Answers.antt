use Rattle.std.proofs.Common.{◌≡◌, ◌+◌, ◌-◌, ◌<◌, arith}
use Rattle.plan_places.specs.Places.{place_at}
use Rattle.plan_places.proofs.Orders.{up_to-refl}
use Rattle.plan_places.proofs.Searched.{count-some, count-IsIn, last-within}
use Rattle.plan_places.proofs.OwnWalk.{epoch-cut}
use Rattle.plan_places.proofs.search.epoch_with.Goals as goal

pub overflow_sub-number_up_to : goal.overflow_sub-number_up_to
overflow_sub-number_up_to c =
    let some = count-some c.args.plan.now (place_at c.args.at.now) (place_at c.args.at.now) c.number_up_to.result c.number_up_to.ensures.cover
    c.requires (up_to-refl _) c.number_up_to.ensures.count in
    omega (arith, some)

pub epoch-requires : goal.epoch-requires
epoch-requires c =
    last-within c.args.plan.now (place_at c.args.at.now) (place_at c.args.at.now) c.number_up_to.result c.number_up_to.ensures.cover
    c.requires (up_to-refl _) c.number_up_to.ensures.count

pub returns : goal.returns
returns c =
    let p = place_at c.args.at.now in
    let n = c.number_up_to.result in
    let cover = c.number_up_to.ensures.cover in
    let count = c.number_up_to.ensures.count in
    let some = count-some c.args.plan.now p p n cover c.requires (up_to-refl _) count in
    let last : n - 1 < n = omega (arith, some) in
    let next : n ≡ n - 1 + 1 = omega (arith, some) in
    record {
      own = epoch-cut c.args.plan.now (n - 1) c.epoch.result c.epoch.ensures.inside c.epoch.ensures.at;
      up_to = count.up_to (n - 1) c.epoch.result last c.epoch.ensures.at;
      has = count-IsIn c.args.plan.now p (n - 1) n c.epoch.result cover c.requires count next c.epoch.ensures.at;
      inside = c.epoch.ensures.inside;
      of_plan = c.epoch.ensures.of_plan;
    }
