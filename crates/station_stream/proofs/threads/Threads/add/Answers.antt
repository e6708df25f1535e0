use Rattle.std.proofs.Common.{◌≡◌, to_z, of_z, w64}
use Rattle.frame_index.proofs.ToldLemmas.{WhereTold-both}
use Rattle.station_stream.specs.Threads.{AreThreadSamples}
use Rattle.station_stream.proofs.SweepLemmas.{passed}
use Rattle.station_stream.proofs.ThreadsLemmas.{AreThreads-push}
use Rattle.station_stream.proofs.threads.Threads.add.Goals as goal

pub returns-clause-threads : goal.returns-clause-threads
returns-clause-threads g c =
    let told = g.F.Shelf.told c.args.shelf.now in
    let sweep = c.args.self.now.sweep in
    let first : to_z w64 (of_z w64 sweep.first) ≡ sweep.first = passed sweep.first sweep.near_first in
    let last : to_z w64 (of_z w64 sweep.last) ≡ sweep.last = passed sweep.last sweep.near_last in
    AreThreads-push told c.args.part.now c.args.self.now c.args.thread c.in_ok-frames.frames c.push.new.self c.push-2.new.self c.requires.threads c.in_ok-push.ensures.items c.in_ok-push-2.ensures.items
    (record {
      reach = rw (first, last) at c.in_ok-frames.ensures.reach;
      samples = WhereTold-both told _ _ (λ t. AreThreadSamples t c.args.part.now sweep.first sweep.last c.args.thread c.in_ok-frames.frames)
          (λ t indexed samples. samples indexed) c.requires.indexed (rw (first, last) at c.in_ok-frames.ensures.levels);
    })
