use Rattle.run_sums.proofs.FrameLemmas.{HoldsFrames-untold}
use Rattle.bin_sums.proofs.ahead.are_told.Goals as goal

pub returns : goal.returns
returns g c =
    HoldsFrames-untold (g.F.Shelf.told c.args._shelf.now) c.args._ready.now.plan c.args._ready.now.recordings.items c.args._scan.now c.args._e.now c.args._frames.now c.requires
