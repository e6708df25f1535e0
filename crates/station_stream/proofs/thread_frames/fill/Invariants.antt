use Rattle.std.proofs.Common.{◌≡◌, ◌≤◌, ◌-◌, length}
use Rattle.dev_traits.specs.Told.{WhereTold}
use Rattle.station_stream.specs.Part.{IsIndexed}
use Rattle.station_stream.specs.FrameSlots.{AreSlots}
use Rattle.station_stream.proofs.thread_frames.fill.Given as goal

abbrev pub invariant-loop-i : goal.invariant-loop-i
invariant-loop-i g l = record {
  within : l.i ≤ length l.there;
  same : g.F.Shelf.told l.shelf ≡ g.F.Shelf.told l.initial.shelf;
  faults : g.F.Shelf.faults l.shelf ≡ g.F.Shelf.faults l.initial.shelf;
  slots : WhereTold (g.F.Shelf.told l.initial.shelf) (λ told. IsIndexed told l.part l.index
      → AreSlots told l.part l.thread l.start l.i l.there l.bytes);
}

abbrev pub decreases-loop-i : goal.decreases-loop-i
decreases-loop-i g l = length l.there - l.i
