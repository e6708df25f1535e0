use Rattle.std.proofs.Common.{Ok}
use Rattle.std.specs.List.{flat_map, range_with_len}
use Rattle.vis_writer.specs.Writes.{Writes}
use Rattle.vis_writer.specs.Texts.{integration_at}
use Rattle.vlbi_core.specs.Shelf.{state, head_at, cells_at, stays, fails}
use Rattle.vlbi_core.proofs.plain.write_integrations.Given as goal

abbrev pub invariant-loop-m : goal.invariant-loop-m
invariant-loop-m g l =
    Writes {T = Unit {0}} (head_at l.plan) (cells_at l.plan) stays fails
    (λ of. flat_map (λ m. integration_at l.head l.number m (of l.number m)) (range_with_len 0 l.m))
    (state (g.F.Shelf.told l.initial.shelf) (g.F.Shelf.faults l.initial.shelf)) (state (g.F.Shelf.told l.shelf) (g.F.Shelf.faults l.shelf))
    (g.S.Sink.told l.initial.out) (g.S.Sink.told l.out) (g.S.Sink.faults l.initial.out) (g.S.Sink.faults l.out) (Ok tt)
