use Rattle.std.proofs.Common.{◌≡◌, to_z, of_z, w64, length, arith}
use Rattle.std.proofs.lemmas.Int.{to_z-of_z}
use Rattle.frame_index.proofs.ToldLemmas.{WhereTold-weaker}
use Rattle.station_stream.proofs.ThreadLemmas.{AreSlots-all}
use Rattle.station_stream.proofs.thread_frames.fill.Goals as goal

pub returns-clause-slots : goal.returns-clause-slots
returns-clause-slots g c =
    let count : c.loop-i.i ≡ length c.loop-i.there = omega arith in
    WhereTold-weaker (g.F.Shelf.told c.args.shelf.now) _ _
    (λ shelf slots indexed. AreSlots-all shelf c.args.part.now c.args.thread c.args.start (to_z w64 (of_z w64 c.args.start)) c.loop-i.i c.loop-i.there c.loop-i.bytes
    (to_z-of_z w64 c.args.start c.ranges.start) count (slots indexed))
    c.loop-i.invariant.slots
