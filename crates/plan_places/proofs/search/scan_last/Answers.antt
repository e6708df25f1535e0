use Rattle.std.proofs.Common.{◌<◌, refl, arith}
use Rattle.plan_places.specs.Places.{place_at, IsUpTo}
use Rattle.plan_places.proofs.Searched.{count-some, last-within, last-IsLastTo, last-EndsScan, epoch-next}
use Rattle.plan_places.proofs.search.scan_last.Goals as goal

pub overflow_sub-i : goal.overflow_sub-i
overflow_sub-i c =
    let le : IsUpTo (place_at c.args.at.now) (record { scan = c.args.at.now.scan; m = 18446744073709551615; from = 18446744073709551615 }) =
    record { scan = omega arith; m = λ s. omega arith; from = λ s t. omega arith } in
    let some = count-some c.args.plan.now (place_at c.args.at.now) _ c.number_up_to-i.result c.number_up_to-i.ensures.cover c.requires le c.number_up_to-i.ensures.count in
    omega (arith, some)

pub epoch-requires : goal.epoch-requires
epoch-requires c =
    let le : IsUpTo (place_at c.args.at.now) (record { scan = c.args.at.now.scan; m = 18446744073709551615; from = 18446744073709551615 }) =
    record { scan = omega arith; m = λ s. omega arith; from = λ s t. omega arith } in
    last-within c.args.plan.now (place_at c.args.at.now) _ c.number_up_to-i.result c.number_up_to-i.ensures.cover c.requires le c.number_up_to-i.ensures.count

pub returns-clause-last : goal.returns-clause-last
returns-clause-last c =
    let le : IsUpTo (place_at c.args.at.now) (record { scan = c.args.at.now.scan; m = 18446744073709551615; from = 18446744073709551615 }) =
    record { scan = omega arith; m = λ s. omega arith; from = λ s t. omega arith } in
    let last = last-IsLastTo c.args.plan.now (place_at c.args.at.now) _ c.number_up_to-i.result c.epoch.result
    c.number_up_to-i.ensures.cover c.requires le refl c.number_up_to-i.ensures.count c.epoch.ensures.at in
    let bound : c.epoch.result.to < 18446744073709551615 = omega (arith, c.epoch.ensures.of_plan.to) in
    last-EndsScan c.args.plan.now (place_at c.args.at.now) _ c.epoch.result last refl bound (omega (arith, bound))

pub returns-clause-next : goal.returns-clause-next
returns-clause-next c = epoch-next c.args.plan.now _ c.epoch.result c.number_up_to-i.ensures.cover c.epoch.ensures.at
