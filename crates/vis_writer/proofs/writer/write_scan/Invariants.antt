use Rattle.std.proofs.Common.{Ok}
use Rattle.std.specs.List.{flat_map, range_with_len}
use Rattle.vis_records.specs.Heads.{scan_of}
use Rattle.vis_writer.specs.Writes.{Writes}
use Rattle.vis_writer.specs.Texts.{integration_text}
use Rattle.vis_writer.proofs.writer.write_scan.Given as goal

abbrev pub invariant-loop-m : goal.invariant-loop-m
invariant-loop-m g l =
    Writes {T = Unit {0}} g.C.CellSource.head g.C.CellSource.cells g.C.CellSource.steady g.C.CellSource.fails
    (λ of. flat_map (integration_text l.head l.number (scan_of l.scan) of) (range_with_len 0 l.m))
    l.initial.source l.source (g.S.Sink.told l.initial.out) (g.S.Sink.told l.out)
    (g.S.Sink.faults l.initial.out) (g.S.Sink.faults l.out) (Ok tt)
