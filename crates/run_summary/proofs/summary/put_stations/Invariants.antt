use Rattle.std.proofs.Common.{take}
use Rattle.std.specs.List.{flat_map}
use Rattle.run_summary.specs.Lines.{PutsLines}
use Rattle.run_summary.specs.Summaries.{station_line}
use Rattle.run_summary.proofs.summary.put_stations.Given as goal

abbrev pub invariant-loop-i : goal.invariant-loop-i
invariant-loop-i g l =
    PutsLines l.stations l.recordings (λ files. flat_map (station_line files) (take l.i l.stations)) l.initial.lines l.lines
    (g.S.Sink.told l.initial.out) (g.S.Sink.told l.out)
    (g.S.Sink.faults l.initial.out) (g.S.Sink.faults l.out)
