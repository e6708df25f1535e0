use Rattle.std.specs.Prelude.{OnOk}
use Rattle.std.proofs.Common.{arith, subst, sym, Result, Ok, Err}
use Rattle.std.proofs.lemmas.List.{length-take}
use Rattle.checkpoint_journal.specs.declared.fault.ReadFault.{ReadFault}
use Rattle.vis_writer.specs.declared.fault.WriteFault.{WriteFault}
use Rattle.vis_writer.specs.Cells.{CellsOf}
use Rattle.vis_writer.specs.Texts.{integration_at}
use Rattle.job_epochs.specs.Sizes.{size_of}
use Rattle.journal_records.specs.Places.{place_of_integration}
use Rattle.journal_records.specs.Store.{store, WritesCells}
use Rattle.journal_records.proofs.StoreLemmas.{scan-IsScanPlan, number-within, width-of-head, cells-integration, cells-failed}
use Rattle.journal_records.proofs.writer.write_integration.Goals as goal

pub width_of-width-requires-clause-scan : goal.width_of-width-requires-clause-scan
width_of-width-requires-clause-scan g c = scan-IsScanPlan c.args.plan.now c.args.number c.args.scan.now c.requires.cut.plan_is c.requires.scan

pub sum_integration-requires-clause-scan : goal.sum_integration-requires-clause-scan
sum_integration-requires-clause-scan g c = scan-IsScanPlan c.args.plan.now c.args.number c.args.scan.now c.requires.cut.plan_is c.requires.scan

pub write_integration_at-requires-clause-inside : goal.write_integration_at-requires-clause-inside
write_integration_at-requires-clause-inside g c = number-within c.args.plan.now c.args.head.now c.args.number c.args.scan.now c.requires.head c.requires.scan

pub write_integration_at-requires-clause-room : goal.write_integration_at-requires-clause-room
write_integration_at-requires-clause-room g c =
    let width = width-of-head c.args.plan.now c.args.head.now c.args.number c.args.scan.now c.requires.head c.requires.scan in
    omega (arith, width, c.requires.room, c.width_of-width.ensures, length-take c.width_of-width.result c.args.cells.now)

pub returns-in-Err-clause-written : goal.returns-in-Err-clause-written
returns-in-Err-clause-written g c =
    cells-failed _ _ _ _ _ _ _ _ (store c.args.journal.now c.args.disk.now) (store c.sum_integration.new.journal c.sum_integration.new.disk) _ _ c.in-Err.fault
    c.in-Err.ensures.rests c.in-Err.ensures.counts.risen

pub returns-in-Ok-clause-written : goal.returns-in-Ok-clause-written
returns-in-Ok-clause-written g c =
    let due = place_of_integration c.args.epochs.now c.args.number (size_of c.args.plan.now c.args.scan.now) c.args.m in
    subst
    (λ (r : Result (Unit {0}) (WriteFault ReadFault)).
    WritesCells g.D.Disk.seen g.D.Disk.moment g.D.Disk.may_leave g.D.Disk.faults c.args.plan.now c.args.epochs.now due
    (λ (of : CellsOf). integration_at c.args.head.now c.args.number c.args.m (of c.args.number c.args.m))
    (store c.args.journal.now c.args.disk.now) (store c.sum_integration.new.journal c.sum_integration.new.disk)
    (g.S.Sink.told c.args.out.now) (g.S.Sink.told c.write_integration_at.new.out)
    (g.S.Sink.faults c.args.out.now) (g.S.Sink.faults c.write_integration_at.new.out) r)
    (sym c.sunk.ensures)
    (cells-integration _ _ _ _ _ _ due (store c.args.journal.now c.args.disk.now)
    (store c.sum_integration.new.journal c.sum_integration.new.disk) c.args.head.now c.args.number c.args.m _ _ _ _ _
    c.write_integration_at.result c.in-Ok.ensures.rests c.in-Ok.ensures.counts.kept (c.in-Ok.ensures.sums c.args.number c.requires.scan) c.write_integration_at.ensures)

on_ok : {T E : Type 0} {P : Type 0} (r : Result T E) → P → OnOk r P
on_ok (Ok x) p = p
on_ok (Err e) p = tt

pub returns-in-Ok-clause-reaches : goal.returns-in-Ok-clause-reaches
returns-in-Ok-clause-reaches g c = on_ok c.sunk.result (c.in-Ok.ensures.reaches c.args.number c.requires.scan)
