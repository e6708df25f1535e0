use Rattle.std.proofs.Common.{Ok}
use Rattle.std.specs.List.{flat_map, range_with_len}
use Rattle.vis_writer.specs.Writes.{Writes}
use Rattle.vis_writer.specs.Texts.{text_at}
use Rattle.vis_writer.proofs.writer.write_scans.Given as goal

abbrev pub invariant-loop-number : goal.invariant-loop-number
invariant-loop-number g l =
    Writes {T = Unit {0}} g.C.CellSource.head g.C.CellSource.cells g.C.CellSource.steady g.C.CellSource.fails
    (λ of. flat_map (text_at l.head of) (range_with_len 0 l.number))
    l.initial.source l.source (g.S.Sink.told l.initial.out) (g.S.Sink.told l.out)
    (g.S.Sink.faults l.initial.out) (g.S.Sink.faults l.out) (Ok tt)
