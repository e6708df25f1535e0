use Rattle.std.proofs.Common.{◌≡◌, ◌<◌, ℕ, None, get_or}
use Rattle.std.specs.List.{Contains}
use Rattle.std.specs.Option.{ForSome}
use Rattle.station_stream.specs.Threads.{AreThreads}
use Rattle.station_stream.proofs.swept.read_sweep.Given as goal

abbrev pub invariant-loop-chan : goal.invariant-loop-chan
invariant-loop-chan g l = record {
  same : g.F.Shelf.told l.shelf ≡ g.F.Shelf.told l.initial.shelf;
  faults : g.F.Shelf.faults l.shelf ≡ g.F.Shelf.faults l.initial.shelf;
  sweep : l.threads.sweep ≡ l.fn.sweep;
  threads : AreThreads (g.F.Shelf.told l.initial.shelf) l.part l.threads;
  there : (k : ℕ) → k < l.chan-index → ForSome (get_or l.part.chans.now k None) (λ c. Contains l.threads.numbers.items c.thread);
}
