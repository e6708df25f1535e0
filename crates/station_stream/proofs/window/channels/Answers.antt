use Rattle.std.proofs.Common.{◌+◌}
use Rattle.station_stream.specs.declared.window.Window.{Window}
use Rattle.station_stream.proofs.ChansLemmas.{AreWhole-filled, AllValues-filled}
use Rattle.station_stream.proofs.StayFramesLemmas.{AreSwept-untold}
use Rattle.station_stream.proofs.window.channels.Goals as goal

pub all_filled-requires-clause-swept : goal.all_filled-requires-clause-swept
all_filled-requires-clause-swept g c =
    rw c.deref.ensures.value
    (AreSwept-untold (g.F.Shelf.told c.args.shelf.now) c.args.part.now c.args.from (c.args.from + c.args.count) c.in_ok-sweeps.sweeps.items c.in_ok-sweeps.ensures.swept)

pub returns-clause-whole : goal.returns-clause-whole
returns-clause-whole g c =
    let w : Window = record { from = c.args.from; count = c.args.count } in
    let told = g.F.Shelf.told c.args.shelf.now in
    AreWhole-filled told c.args.part.now w c.args.part.now.to c.in_ok-chans.chans.items (c.in_ok-chans.ensures.filled told (rw c.deref.ensures.value c.in_ok-sweeps.ensures.swept))

pub returns-clause-values : goal.returns-clause-values
returns-clause-values g c =
    let told = g.F.Shelf.told c.args.shelf.now in
    let w : Window = record { from = c.args.from; count = c.args.count } in
    AllValues-filled told c.args.part.now w c.in_ok-chans.chans.items c.in_ok-chans.ensures.each (c.in_ok-chans.ensures.filled told (rw c.deref.ensures.value c.in_ok-sweeps.ensures.swept))
