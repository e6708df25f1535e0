use Rattle.std.specs.Prelude.{slice_get}
use Rattle.std.proofs.Common.{rules, ◌≡◌, ◌<◌, ◌∙◌, List, Some, Vec, Global, get_or, length, ap, subst, sym, arith}
use Rattle.std.proofs.lemmas.Option.{slice_get-get_or}
use Rattle.bit_planes.specs.Planes.{PlanesFields}
use Rattle.station_stream.specs.Stream.{StreamFields}
use Rattle.epoch_run.specs.Planes.{HoldChans, HoldChansAt}
use Rattle.epoch_run.proofs.PlaneValues.{each-more, some_one}
use Rattle.epoch_run.proofs.copied.stations_of_streams.Goals as goal

pub loop-station-preserved : goal.loop-station-preserved
loop-station-preserved c =
    let streams = c.args.streams.now in
    let old = c.loop-station.invariant in
    let station = c.loop-station.station in
    let x = c.index-streams-station.result in
    let chans = c.in_ok-chans_of_stream.field-0 in
    let h : station < length streams = omega (arith, c.loop-station-test.true, c.min-station-end.ensures) in
    let there : slice_get streams station ≡ Some x = slice_get-get_or streams station x h ∙ ap Some (sym c.index-streams-station.is) in
    let new : HoldChansAt streams station chans.items =
    λ s is. subst (λ (y : StreamFields). HoldChans y chans.items) (some_one x s (sym there ∙ is)) c.in_ok-chans_of_stream.ensures in
    record {
      count = search rules;
      each = λ i d k.
          subst (λ (stations : List (Vec PlanesFields Global)). HoldChansAt streams i (get_or stations i d).items) (sym c.in_ok-push.ensures.items)
          (each-more (λ j v. HoldChansAt streams j v.items) c.loop-station.stations.items chans station old.count old.each new i d k);
    }

pub returns : goal.returns
returns c = record {
  count = omega (arith, c.loop-station.invariant.count, c.loop-station-test.false, c.loop-station.auto.station-end, c.min-station-end.ensures);
  each = λ i d h. c.loop-station.invariant.each i d (omega (arith, c.loop-station.invariant.count));
}
