use Rattle.epoch_run.proofs.PlaneValues.{HoldEach-levelled, HoldEach-streams}
use Rattle.epoch_run.proofs.planes.EpochPlanes.build.Goals as goal

pub invariant_of-result-2 : goal.invariant_of-result-2
invariant_of-result-2 c = HoldEach-levelled c.args.streams.now _ c.in_ok-stations.ensures c.are_levelled.ensures

pub returns : goal.returns
returns c = HoldEach-streams c.args.streams.now _ c.in_ok-stations.ensures
