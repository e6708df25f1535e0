use Rattle.std.proofs.Common.{take}
use Rattle.std.specs.List.{flat_map, range_with_len}
use Rattle.corr_model.specs.Records.{baseline_places}
use Rattle.vis_records.specs.Heads.{scan_of}
use Rattle.vis_records.specs.Dumping.{PutsRecords}
use Rattle.vis_records.proofs.record_lines.put_integration.Given as goal

abbrev pub invariant-loop-i : goal.invariant-loop-i
invariant-loop-i g l =
    PutsRecords l.head.lags (flat_map (baseline_places l.number (scan_of l.scan) l.m) (take l.i (range_with_len 0 l.count))) l.cells l.left l.initial.lines l.lines
    (g.S.Sink.told l.initial.out) (g.S.Sink.told l.out)
    (g.S.Sink.faults l.initial.out) (g.S.Sink.faults l.out)
