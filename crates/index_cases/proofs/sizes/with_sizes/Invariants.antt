-- The files so far have their sizes.
use Rattle.std.proofs.Common.{◌≡◌}
use Rattle.dev_traits.specs.Told.{WhereTold}
use Rattle.frame_index.specs.Recording.{AreOnShelf}
use Rattle.index_cases.proofs.sizes.with_sizes.Given as goal

abbrev pub invariant-loop-name : goal.invariant-loop-name
invariant-loop-name g l = record {
  same : g.F.Shelf.told l.shelf ≡ g.F.Shelf.told l.initial.shelf;
  sizes : WhereTold (g.F.Shelf.told l.initial.shelf) (AreOnShelf l.files.items);
}
