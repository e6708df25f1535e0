use Rattle.std.proofs.Common.{◌≡◌, ◌≤◌, ◌-◌, length, drop}
use Rattle.dev_traits.specs.Files.{bytes_of}
use Rattle.dev_traits.specs.Told.{WhereTold}
use Rattle.shelf_stretch.specs.Fronts.{HasFront}
use Rattle.shelf_stretch.proofs.front.read_front.Given as goal

abbrev pub invariant-loop-done : goal.invariant-loop-done
invariant-loop-done g l = record {
  within : l.done ≤ length l.buf;
  same : g.F.Shelf.told l.shelf ≡ g.F.Shelf.told l.initial.shelf;
  faults : g.F.Shelf.faults l.shelf ≡ g.F.Shelf.faults l.initial.shelf;
  front : WhereTold (g.F.Shelf.told l.initial.shelf) (λ files. HasFront (drop l.at (bytes_of (files l.name))) l.done l.buf);
}

abbrev pub decreases-loop-done : goal.decreases-loop-done
decreases-loop-done g l = length l.buf - l.done
