use Rattle.std.proofs.Common.{◌∷◌, [], ap, length, arith}
use Rattle.std.proofs.lemmas.List.{length-append}
use Rattle.station_stream.specs.Stream.{windowed}
use Rattle.epoch_run.proofs.PlaneValues.{chans-more}
use Rattle.epoch_run.proofs.copied.chans_of_stream.Goals as goal

pub loop-chan-preserved : goal.loop-chan-preserved
loop-chan-preserved c =
    let chans = c.loop-chan.chans.items in
    let p = c.in_ok-chan_of_stream.field-0 in
    let old = c.loop-chan.invariant in
    record {
      count = omega (arith, ap length c.in_ok-push.ensures.items, length-append chans (p ∷ []), old.count);
      values = rw c.in_ok-push.ensures.items
          (chans-more (windowed c.args.stream.now) chans p c.loop-chan.chan old.count old.values c.in_ok-chan_of_stream.ensures);
    }

pub returns : goal.returns
returns c = record {
  count = omega (arith, c.loop-chan.invariant.count, c.loop-chan-test.false, c.loop-chan.auto.chan-end, c.min-chan-end.ensures);
  values = λ chan n h. c.loop-chan.invariant.values chan n (omega (arith, c.loop-chan.invariant.count));
}
