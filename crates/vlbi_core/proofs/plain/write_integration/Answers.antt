use Rattle.std.proofs.Common.{Result, sym, subst, arith}
use Rattle.std.proofs.lemmas.List.{length-take}
use Rattle.station_stream.specs.declared.fault.StreamFault.{StreamFault}
use Rattle.vis_writer.specs.declared.fault.WriteFault.{WriteFault}
use Rattle.vis_writer.specs.Cells.{CellsOf}
use Rattle.vis_writer.specs.Texts.{integration_at}
use Rattle.vis_writer.specs.Writes.{Writes}
use Rattle.journal_records.proofs.StoreLemmas.{scan-IsScanPlan, number-within, width-of-head, width-within}
use Rattle.vlbi_core.specs.Shelf.{state, head_at, cells_at, stays, fails}
use Rattle.vlbi_core.proofs.PlainLemmas.{Writes-summed, Writes-unread}
use Rattle.vlbi_core.proofs.plain.write_integration.Goals as goal

pub cell_count-count-requires-clause-scan : goal.cell_count-count-requires-clause-scan
cell_count-count-requires-clause-scan g c = scan-IsScanPlan c.args.plan.now c.args.number c.args.scan.now c.requires.plan c.requires.scan

pub slice_bounds-cells-end : goal.slice_bounds-cells-end
slice_bounds-cells-end g c =
    let most = width-within c.args.plan.now c.args.head.now c.args.number c.args.scan.now c.requires.head c.requires.scan in
    omega (arith, most, c.requires.room, c.cell_count-count.ensures)

pub slice_bounds-cells-end-2 : goal.slice_bounds-cells-end-2
slice_bounds-cells-end-2 g c =
    let most = width-within c.args.plan.now c.args.head.now c.args.number c.args.scan.now c.requires.head c.requires.scan in
    omega (arith, most, c.requires.room, c.cell_count-count.ensures, length-take c.cell_count-count.result c.args.buffer.now)

pub sum_integration-requires-clause-scan : goal.sum_integration-requires-clause-scan
sum_integration-requires-clause-scan g c = scan-IsScanPlan c.args.plan.now c.args.number c.args.scan.now c.requires.plan c.requires.scan

pub sum_integration-requires-clause-room : goal.sum_integration-requires-clause-room
sum_integration-requires-clause-room g c =
    let most = width-within c.args.plan.now c.args.head.now c.args.number c.args.scan.now c.requires.head c.requires.scan in
    omega (arith, most, c.requires.room, c.cell_count-count.ensures, length-take c.cell_count-count.result c.args.buffer.now)

pub write_integration_at-requires-clause-inside : goal.write_integration_at-requires-clause-inside
write_integration_at-requires-clause-inside g c = number-within c.args.plan.now c.args.head.now c.args.number c.args.scan.now c.requires.head c.requires.scan

pub write_integration_at-requires-clause-room : goal.write_integration_at-requires-clause-room
write_integration_at-requires-clause-room g c =
    let most = width-within c.args.plan.now c.args.head.now c.args.number c.args.scan.now c.requires.head c.requires.scan in
    let width = width-of-head c.args.plan.now c.args.head.now c.args.number c.args.scan.now c.requires.head c.requires.scan in
    omega (arith, most, width, c.requires.room, c.cell_count-count.ensures, length-take c.cell_count-count.result c.args.buffer.now)

pub returns-in-Err : goal.returns-in-Err
returns-in-Err g c =
    Writes-unread c.args.plan.now _ _ _ _ _ _ _ c.in-Err.fault c.in-Err.ensures.same c.in-Err.ensures.counts.cause

pub returns-in-Ok : goal.returns-in-Ok
returns-in-Ok g c =
    subst
    (λ (r : Result (Unit {0}) (WriteFault StreamFault)).
    Writes (head_at c.args.plan.now) (cells_at c.args.plan.now) stays fails
    (λ (of : CellsOf). integration_at c.args.head.now c.args.number c.args.m (of c.args.number c.args.m))
    (state (g.F.Shelf.told c.args.shelf.now) (g.F.Shelf.faults c.args.shelf.now))
    (state (g.F.Shelf.told c.sum_integration.new.shelf) (g.F.Shelf.faults c.sum_integration.new.shelf))
    (g.S.Sink.told c.args.out.now) (g.S.Sink.told c.write_integration_at.new.out)
    (g.S.Sink.faults c.args.out.now) (g.S.Sink.faults c.write_integration_at.new.out) r)
    (sym c.sunk.ensures)
    (Writes-summed c.args.plan.now _ _ _ _ c.args.head.now c.args.number c.args.m c.args.scan.now c.sum_integration.new.cells _ _ _ _ c.write_integration_at.result
    c.requires.scan c.in-Ok.ensures.same c.in-Ok.ensures.counts.kept c.in-Ok.ensures.cells c.write_integration_at.ensures)
