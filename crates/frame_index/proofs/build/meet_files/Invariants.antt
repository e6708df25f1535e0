use Rattle.std.proofs.Common.{◌≡◌, ◌+◌, take}
use Rattle.dev_traits.specs.Told.{WhereTold}
use Rattle.corr_model.specs.Slots.{placed_from}
use Rattle.frame_index.specs.Building.{Extends}
use Rattle.frame_index.specs.Recording.{AreOnShelf, bytes_on, slot_total}
use Rattle.frame_index.proofs.build.meet_files.Given as goal

abbrev pub invariant-loop-i : goal.invariant-loop-i
invariant-loop-i g l = record {
  same : g.F.Shelf.told l.shelf ≡ g.F.Shelf.told l.initial.shelf;
  faults : g.F.Shelf.faults l.shelf ≡ g.F.Shelf.faults l.initial.shelf;
  extends : WhereTold (g.F.Shelf.told l.initial.shelf) (λ told. AreOnShelf l.files told
      → Extends l.shape l.initial.builder l.builder (placed_from l.shape.frame_bytes 0 (bytes_on told (take l.i l.files))));
  slots : l.builder.counts.slots ≡ l.initial.builder.counts.slots + slot_total l.shape (take l.i l.files);
}
