use Rattle.std.proofs.Common.{◌+◌, ℕ, sym, subst, length, map, None}
use Rattle.dev_traits.specs.Told.{WhereTold}
use Rattle.value_codes.specs.Codes.{value_of}
use Rattle.station_stream.specs.Part.{chan_at}
use Rattle.station_stream.specs.Window.{AreValues}
use Rattle.station_stream.proofs.SweptLemmas.{AreSwept-within}
use Rattle.station_stream.proofs.StayFramesLemmas.{values-part}
use Rattle.station_stream.proofs.stay_frames.StayFrames.fill.Goals as goal

pub fill_chan-requires-clause-swept : goal.fill_chan-requires-clause-swept
fill_chan-requires-clause-swept c =
    let f = c.args.self.now in
    rw c.deref.ensures.value
    (AreSwept-within None c.args.part.now f.from f.to c.args.from (c.args.from + length c.args.codes.now) f.sweeps.items c.requires.begin c.requires.end c.requires.held)

pub returns : goal.returns
returns c = λ told held.
    let f = c.args.self.now in
    let part = c.args.part.now in
    let codes = c.fill_chan.new.codes in
    values-part told part c.args.chan c.args.from codes
    (subst (λ (count : ℕ). WhereTold told (λ t. AreValues t part (chan_at part.chans.now c.args.chan) c.args.from count (map value_of codes))) (sym c.fill_chan.auto.codes)
    (c.fill_chan.ensures told
    (rw c.deref.ensures.value
    (AreSwept-within told part f.from f.to c.args.from (c.args.from + length c.args.codes.now) f.sweeps.items c.requires.begin c.requires.end held))))
