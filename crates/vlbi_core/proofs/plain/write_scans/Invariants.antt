use Rattle.std.proofs.Common.{Ok}
use Rattle.std.specs.List.{flat_map, range_with_len}
use Rattle.vis_writer.specs.Writes.{Writes}
use Rattle.vis_writer.specs.Texts.{text_at}
use Rattle.vlbi_core.specs.Shelf.{state, head_at, cells_at, stays, fails}
use Rattle.vlbi_core.proofs.plain.write_scans.Given as goal

abbrev pub invariant-loop-number : goal.invariant-loop-number
invariant-loop-number g l =
    Writes {T = Unit {0}} (head_at l.ready.plan) (cells_at l.ready.plan) stays fails
    (λ of. flat_map (text_at l.head of) (range_with_len 0 l.number))
    (state (g.F.Shelf.told l.initial.shelf) (g.F.Shelf.faults l.initial.shelf)) (state (g.F.Shelf.told l.shelf) (g.F.Shelf.faults l.shelf))
    (g.S.Sink.told l.initial.out) (g.S.Sink.told l.out) (g.S.Sink.faults l.initial.out) (g.S.Sink.faults l.out) (Ok tt)
