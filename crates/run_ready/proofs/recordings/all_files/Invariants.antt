use Rattle.std.proofs.Common.{◌≡◌, take, drop}
use Rattle.std.specs.List.{AllZip}
use Rattle.dev_traits.specs.Told.{WhereTold}
use Rattle.run_ready.specs.Sizes.{no_file_for, IsSizedBy, AreShelved}
use Rattle.run_ready.proofs.recordings.all_files.Given as goal

abbrev pub invariant-loop-station : goal.invariant-loop-station
invariant-loop-station g l = record {
  same : g.F.Shelf.told l.shelf ≡ g.F.Shelf.told l.initial.shelf;
  faults : g.F.Shelf.faults l.shelf ≡ g.F.Shelf.faults l.initial.shelf;
  sized : AllZip IsSizedBy (take l.station-index l.stations) l.list.items;
  shelved : WhereTold (g.F.Shelf.told l.initial.shelf) (AreShelved l.list.items);
  first : WhereTold (g.F.Shelf.told l.initial.shelf) (λ files. no_file_for files (drop l.station-index l.stations) ≡ no_file_for files l.stations);
}
