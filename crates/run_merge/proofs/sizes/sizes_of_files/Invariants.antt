use Rattle.std.proofs.Common.{◌≡◌, ◌<◌, ◌^◌, length, take, drop}
use Rattle.std.specs.List.{All, AllZip}
use Rattle.dev_traits.specs.Told.{WhereTold}
use Rattle.run_ready.specs.Sizes.{no_file_of}
use Rattle.run_merge.specs.Shards.{IsSizeOf}
use Rattle.run_merge.proofs.sizes.sizes_of_files.Given as goal

abbrev pub invariant-loop-name : goal.invariant-loop-name
invariant-loop-name g l = record {
  same : g.F.Shelf.told l.shelf ≡ g.F.Shelf.told l.initial.shelf;
  faults : g.F.Shelf.faults l.shelf ≡ g.F.Shelf.faults l.initial.shelf;
  counted : length l.sizes.items ≡ l.name-index;
  bounds : All (λ size. size < 2 ^ 63) l.sizes.items;
  sizes : WhereTold (g.F.Shelf.told l.initial.shelf) (λ files. AllZip (IsSizeOf files) (take l.name-index l.names) l.sizes.items);
  first : WhereTold (g.F.Shelf.told l.initial.shelf) (λ files. no_file_of files (drop l.name-index l.names) ≡ no_file_of files l.names);
}
