use Rattle.std.proofs.Common.{Ok}
use Rattle.std.specs.List.{flat_map, range_with_len}
use Rattle.run_bins.specs.Jobs.{plan_of}
use Rattle.run_bins.specs.Writes.{WritesText, IsReady, scan_text_at}
use Rattle.run_bins.proofs.writer.write_scans.Given as goal

abbrev pub invariant-loop-number : goal.invariant-loop-number
invariant-loop-number g l = record {
  written : WritesText {T = Unit {0}} (g.F.Shelf.told l.initial.shelf) (g.F.Shelf.told l.shelf) (g.F.Shelf.faults l.initial.shelf) (g.F.Shelf.faults l.shelf)
      (λ files. flat_map (λ i. scan_text_at (plan_of l.job) i files) (range_with_len 0 l.number))
      (g.S.Sink.told l.initial.out) (g.S.Sink.told l.out) (g.S.Sink.faults l.initial.out) (g.S.Sink.faults l.out) (Ok tt);
  ready : IsReady (g.F.Shelf.told l.shelf) l.job l.ahead;
}
