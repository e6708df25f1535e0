use Rattle.run_sums.proofs.PlaceLemmas.{stays-few}
use Rattle.run_sums.proofs.FrameLemmas.{HoldsFrames-of}
use Rattle.run_sums.proofs.read.read_epoch.Goals as goal

pub pairs_of-requires : goal.pairs_of-requires
pairs_of-requires g c =
    stays-few c.args.ready.now.plan c.args.scan.now c.plan-plan.ensures.ranges c.requires.ranges

pub rows_for-requires-clause-few : goal.rows_for-requires-clause-few
rows_for-requires-clause-few g c =
    stays-few c.args.ready.now.plan c.args.scan.now c.plan-plan.ensures.ranges c.requires.ranges

pub read_stations-requires-clause-recorded : goal.read_stations-requires-clause-recorded
read_stations-requires-clause-recorded g c = rw (c.plan-plan.ensures.same, c.deref.ensures.value) c.requires.recorded

pub returns-clause-frames : goal.returns-clause-frames
returns-clause-frames g c =
    HoldsFrames-of (g.F.Shelf.told c.args.shelf.now) c.plan-plan.result.now c.args.ready.now.plan c.deref.result.now c.args.ready.now.recordings.items c.args.scan.now c.args.e.now
    c.reach_from-from.result c.reach_to-to.result _
    c.plan-plan.ensures.same c.deref.ensures.value c.reach_from-from.ensures c.reach_to-to.ensures
    c.in_ok-pairs.ensures c.in_ok-rows.ensures c.in_ok-stations.ensures.frames
