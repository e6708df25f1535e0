use Rattle.std.proofs.Common.{arith}
use Rattle.std.proofs.lemmas.Result.{on_ok_weaker}
use Rattle.journal_records.specs.Store.{store}
use Rattle.journal_records.proofs.StoreLemmas.{reaches-same, cells-same, scan-there, scan-text, scan-first, scan-last, width-within}
use Rattle.journal_records.proofs.writer.write_scan.Goals as goal

pub write_integrations-requires-clause-scan : goal.write_integrations-requires-clause-scan
write_integrations-requires-clause-scan g c =
    scan-there c.args.plan.now c.items.result.now c.args.number c.index-items-number.result
    c.items.ensures c.requires.inside c.index-items-number.is

pub write_integrations-requires-clause-room : goal.write_integrations-requires-clause-room
write_integrations-requires-clause-room g c =
    let there =
    scan-there c.args.plan.now c.items.result.now c.args.number c.index-items-number.result
    c.items.ensures c.requires.inside c.index-items-number.is in
    let most = width-within c.args.plan.now c.args.head.now c.args.number c.index-items-number.result c.requires.head there in
    omega (arith, most, c.requires.room)

pub returns-clause-written : goal.returns-clause-written
returns-clause-written g c =
    let there =
    scan-there c.args.plan.now c.items.result.now c.args.number c.index-items-number.result
    c.items.ensures c.requires.inside c.index-items-number.is in
    cells-same _ _ _ _ _ _ _ _ _ _ _ _ _ _ _ _
    (scan-text c.args.plan.now c.args.head.now c.args.number c.index-items-number.result c.requires.head there)
    (scan-first c.args.plan.now c.args.epochs.now c.args.number c.index-items-number.result c.requires.cut.same there)
    c.write_integrations.ensures.written

pub returns-clause-reaches : goal.returns-clause-reaches
returns-clause-reaches g c =
    let there =
    scan-there c.args.plan.now c.items.result.now c.args.number c.index-items-number.result
    c.items.ensures c.requires.inside c.index-items-number.is in
    on_ok_weaker c.write_integrations.result
    (reaches-same g.D.Disk.seen g.D.Disk.moment g.D.Disk.may_leave c.args.epochs.now _ _ _ _ (store c.args.journal.now c.args.disk.now)
    (store c.write_integrations.new.journal c.write_integrations.new.disk)
    (scan-first c.args.plan.now c.args.epochs.now c.args.number c.index-items-number.result c.requires.cut.same there)
    (scan-last c.args.plan.now c.args.epochs.now c.args.number c.index-items-number.result c.requires.cut.plan_is c.requires.cut.same there))
    c.write_integrations.ensures.reaches
