use Rattle.run_sums.proofs.FrameLemmas.{HoldsFrames-untold}
use Rattle.run_sums.proofs.reached.reach_epoch.Goals as goal

pub make_epoch-requires-clause-held : goal.make_epoch-requires-clause-held
make_epoch-requires-clause-held g c κs within =
    HoldsFrames-untold (g.F.Shelf.told c.args.shelf.now) c.args.ready.now.plan c.args.ready.now.recordings.items c.args.scan.now c.args.e.now c.in_ok-frames.frames
    c.in_ok-frames.ensures.frames

pub returns-clause-values : goal.returns-clause-values
returns-clause-values g c = c.in_ok-values.ensures (g.F.Shelf.told c.args.shelf.now) c.in_ok-frames.ensures.frames
