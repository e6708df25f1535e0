use Rattle.std.proofs.Common.{take, ℕ}
use Rattle.std.specs.List.{flat_map, enumerate_from}
use Rattle.corr_model.specs.Records.{HeadScan, scan_places}
use Rattle.vis_records.specs.Dumping.{PutsRecords}
use Rattle.vis_records.proofs.record_lines.put_records.Given as goal

abbrev pub invariant-loop-i : goal.invariant-loop-i
invariant-loop-i g l =
    PutsRecords l.head.lags (flat_map (λ (s : ℕ × HeadScan). scan_places l.head s.0 s.1) (take l.i (enumerate_from 0 l.head.scans))) l.cells l.left l.initial.lines l.lines
    (g.S.Sink.told l.initial.out) (g.S.Sink.told l.out)
    (g.S.Sink.faults l.initial.out) (g.S.Sink.faults l.out)
