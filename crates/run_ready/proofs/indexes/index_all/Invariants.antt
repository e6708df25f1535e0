use Rattle.std.proofs.Common.{◌≡◌, ◌≤◌, ◌^◌, take, drop}
use Rattle.std.specs.List.{All, AllZip}
use Rattle.std.specs.Vec.Iter.{into_iter_items}
use Rattle.dev_traits.specs.Told.{WhereTold}
use Rattle.station_stream.specs.Part.{IsNamedBy, IsRecordingOf}
use Rattle.run_ready.specs.declared.recordings.StationFiles.{StationFiles}
use Rattle.run_ready.specs.Recordings.{first_foreign}
use Rattle.run_ready.specs.Sizes.{IsSizedBy, AreShelved}
use Rattle.run_ready.proofs.indexes.index_all.Given as goal

abbrev pub invariant-loop-station : goal.invariant-loop-station
invariant-loop-station g l = record {
  same : g.F.Shelf.told l.shelf ≡ g.F.Shelf.told l.initial.shelf;
  faults : g.F.Shelf.faults l.shelf ≡ g.F.Shelf.faults l.initial.shelf;
  sized : AllZip IsSizedBy (drop l.station-index l.stations) (into_iter_items l.rest);
  few_slots : All (λ (z : StationFiles). z.slots ≤ 2 ^ 26) (into_iter_items l.rest);
  shelved : WhereTold (g.F.Shelf.told l.initial.shelf) (AreShelved (into_iter_items l.rest));
  named : AllZip IsNamedBy (take l.station-index l.stations) l.list.items;
  recorded : WhereTold (g.F.Shelf.told l.initial.shelf) (λ files. AllZip (IsRecordingOf files) (take l.station-index l.stations) l.list.items);
  first : WhereTold (g.F.Shelf.told l.initial.shelf) (λ files. first_foreign files (drop l.station-index l.stations) ≡ first_foreign files l.stations);
}
