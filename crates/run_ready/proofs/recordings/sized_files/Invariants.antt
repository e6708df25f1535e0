use Rattle.std.proofs.Common.{◌≡◌, take, drop, map}
use Rattle.dev_traits.specs.Told.{WhereTold}
use Rattle.frame_index.specs.declared.recording.FileRef.{FileRef}
use Rattle.frame_index.specs.Recording.{AreOnShelf}
use Rattle.run_ready.specs.Sizes.{no_file_of}
use Rattle.run_ready.proofs.recordings.sized_files.Given as goal

abbrev pub invariant-loop-name : goal.invariant-loop-name
invariant-loop-name g l = record {
  same : g.F.Shelf.told l.shelf ≡ g.F.Shelf.told l.initial.shelf;
  faults : g.F.Shelf.faults l.shelf ≡ g.F.Shelf.faults l.initial.shelf;
  names : map (λ (f : FileRef). f.name) l.list.items ≡ take l.name-index l.names;
  shelved : WhereTold (g.F.Shelf.told l.initial.shelf) (AreOnShelf l.list.items);
  first : WhereTold (g.F.Shelf.told l.initial.shelf) (λ files. no_file_of files (drop l.name-index l.names) ≡ no_file_of files l.names);
}
