use Rattle.std.proofs.Common.{◌≡◌, length, map, take}
use Rattle.std.specs.List.{All}
use Rattle.dev_traits.specs.Told.{WhereTold}
use Rattle.job_plan.specs.declared.plan.StayPlan.{StayPlan}
use Rattle.station_stream.specs.Stream.{IsOfWindow}
use Rattle.plain_sums.proofs.ValuesLemmas.{AreOfStays}
use Rattle.plain_sums.proofs.values.ScanValues.load.Given as goal

abbrev pub invariant-loop-stay : goal.invariant-loop-stay
invariant-loop-stay g l = record {
  same : g.F.Shelf.told l.shelf ≡ g.F.Shelf.told l.initial.shelf;
  faults : g.F.Shelf.faults l.shelf ≡ g.F.Shelf.faults l.initial.shelf;
  stations : l.stations.items ≡ map (λ (stay : StayPlan). stay.station) (take l.stay-index l.stay-items);
  windows : All (IsOfWindow l.from l.to) l.streams.items;
  each : length l.streams.items ≡ l.stay-index;
  values : WhereTold (g.F.Shelf.told l.initial.shelf) (AreOfStays l.plan l.scan l.from l.to (take l.stay-index l.stay-items) l.streams.items);
}
