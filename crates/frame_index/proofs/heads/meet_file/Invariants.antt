use Rattle.std.proofs.Common.{◌≡◌, ◌+◌, ◌-◌, ◌/◌, ◌≤◌, length}
use Rattle.std.specs.Str.{IsUtf8}
use Rattle.dev_traits.specs.Files.{bytes_of}
use Rattle.dev_traits.specs.Told.{WhereTold}
use Rattle.frame_index.specs.Building.{Extends}
use Rattle.frame_index.specs.Pieces.{placed_run}
use Rattle.frame_index.proofs.heads.meet_file.Given as goal

abbrev pub invariant-loop-k : goal.invariant-loop-k
invariant-loop-k g l = record {
  within : l.k ≤ l.count;
  same : g.F.Shelf.told l.shelf ≡ g.F.Shelf.told l.initial.shelf;
  faults : g.F.Shelf.faults l.shelf ≡ g.F.Shelf.faults l.initial.shelf;
  extends : IsUtf8 l.name → WhereTold (g.F.Shelf.told l.initial.shelf)
      (λ files. l.count ≡ length (bytes_of (files l.name)) / l.shape.frame_bytes
      → Extends l.shape l.initial.builder l.builder (placed_run l.shape.frame_bytes l.file (bytes_of (files l.name)) 0 l.k));
  slots : l.builder.counts.slots ≡ l.initial.builder.counts.slots + l.k;
}

abbrev pub decreases-loop-k : goal.decreases-loop-k
decreases-loop-k g l = l.count - l.k
