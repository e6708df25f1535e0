use Rattle.fringe_search.proofs.Putting.{none_put, one_put, all_put}
use Rattle.fringe_search.proofs.write.put_certificate.Goals as goal

pub loop-next-init : goal.loop-next-init
loop-next-init g c =
    none_put c.args.vis.now c.args.grid.now c.head-head.result.now c.first-next.result c.head-head.ensures.head c.first-next.ensures.first c.first-next.ensures.within c.put_grid.ensures

pub loop-next-preserved : goal.loop-next-preserved
loop-next-preserved g c =
    one_put c.args.vis.now c.args.grid.now c.head-head.result.now c.loop-next.next c.in-Some.at c.after-next.result c.head-head.ensures.head c.in-Some.is c.loop-next.invariant c.put_series.ensures
    c.after-next.ensures.rest
    c.after-next.ensures.within

pub returns : goal.returns
returns g c = all_put c.args.vis.now c.args.grid.now c.loop-next.next c.in_default.is c.loop-next.invariant
