use Rattle.std.proofs.Common.{Option, subst}
use Rattle.fringe_search.specs.declared.places.SeriesAt.{SeriesAt}
use Rattle.fringe_search.proofs.Passed.{IsPassed, one_passed, all_passed, large_here}
use Rattle.fringe_search.proofs.limit.amplitude.Goals as goal

pub returns-in-Some-first_large : goal.returns-in-Some-first_large
returns-in-Some-first_large c =
    let passed = subst (λ (n : Option SeriesAt). IsPassed c.args.vis.now n) c.in-Some.is c.loop-next.invariant in
    large_here c.args.vis.now c.in-Some.at _ c.in-Some-first_large.amplitude passed c.of.ensures c.in-Some-first_large.ensures

pub loop-next-preserved : goal.loop-next-preserved
loop-next-preserved c =
    let passed = subst (λ (n : Option SeriesAt). IsPassed c.args.vis.now n) c.in-Some.is c.loop-next.invariant in
    one_passed c.args.vis.now c.head-head.result.now c.in-Some.at c.after-next.result _ c.head-head.ensures.head passed c.of.ensures
    c.in_default-first_large.ensures c.after-next.ensures.rest c.after-next.ensures.within

pub returns : goal.returns
returns c = all_passed c.args.vis.now (subst (λ (n : Option SeriesAt). IsPassed c.args.vis.now n) c.in_default.is c.loop-next.invariant)
