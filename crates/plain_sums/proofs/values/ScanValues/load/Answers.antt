use Rattle.std.proofs.Common.{◌∙◌, refl, ap, sym, arith, rules}
use Rattle.std.specs.List.{slice_get}
use Rattle.std.proofs.lemmas.List.Elements.{All-push}
use Rattle.std.proofs.lemmas.Option.{slice_get_read}
use Rattle.station_stream.specs.Stream.{IsOfWindow}
use Rattle.station_stream.proofs.StayLemmas.{is_some-stay_of}
use Rattle.plain_sums.proofs.ValuesLemmas.{stations-push, AreOfStays-push, stations-all, values_in-rotated, values_in-outside}
use Rattle.plain_sums.proofs.values.ScanValues.load.Goals as goal

pub stay_stream-requires-clause-stands : goal.stay_stream-requires-clause-stands
stay_stream-requires-clause-stands g c =
    let at = slice_get_read c.items-stay-items.result.now _ c.loop-stay.stay-index c.stay-item.result refl (omega arith) c.stay-item.is in
    is_some-stay_of c.args.scan.now c.loop-stay.stay-index c.stay-item.result
    (ap (λ stays. slice_get stays c.loop-stay.stay-index) (sym c.items-stay-items.ensures) ∙ at)

pub loop-stay-preserved : goal.loop-stay-preserved
loop-stay-preserved g c =
    let told = g.F.Shelf.told c.args.shelf.now in
    let at = slice_get_read c.items-stay-items.result.now _ c.loop-stay.stay-index c.stay-item.result refl (omega arith) c.stay-item.is in
    record {
      same = c.in_ok-stream.ensures.same ∙ c.loop-stay.invariant.same;
      faults = c.in_ok-stream.ensures.counts.kept ∙ c.loop-stay.invariant.faults;
      stations = rw c.in_ok-push.ensures.items
          (stations-push c.items-stay-items.result.now c.loop-stay.stay-index c.stay-item.result c.loop-stay.stations.items at c.loop-stay.invariant.stations);
      each = search rules;
      windows = rw c.in_ok-push-2.ensures.items
          (All-push (IsOfWindow c.args.from c.args.to) c.loop-stay.streams.items c.in_ok-stream.stream c.loop-stay.invariant.windows c.in_ok-stream.ensures.window);
      values = rw c.in_ok-push-2.ensures.items
          (AreOfStays-push told c.args.plan.now c.args.scan.now c.args.from c.args.to c.items-stay-items.result.now c.loop-stay.streams.items c.loop-stay.stay-index c.stay-item.result c.in_ok-stream.stream at
          c.loop-stay.invariant.values
          (rw c.loop-stay.invariant.same at c.in_ok-stream.ensures.values));
    }

pub returns-clause-values : goal.returns-clause-values
returns-clause-values g c =
    values_in-rotated (g.F.Shelf.told c.args.shelf.now) c.loop-stay.stations.items c.loop-stay.streams.items c.args.plan.now c.args.scan.now c.args.from c.args.to c.items-stay-items.result.now c.loop-stay.stay-index
    c.items-stay-items.ensures (omega arith) c.loop-stay.invariant.stations c.loop-stay.invariant.values

pub returns-clause-outside : goal.returns-clause-outside
returns-clause-outside g c =
    values_in-outside c.loop-stay.stations.items c.loop-stay.streams.items c.args.from c.args.to c.loop-stay.invariant.windows

pub returns-clause-stands : goal.returns-clause-stands
returns-clause-stands g c =
    stations-all c.loop-stay.stations.items c.items-stay-items.result.now c.args.scan.now.stays c.loop-stay.stay-index c.items-stay-items.ensures (omega arith)
    c.loop-stay.invariant.stations
