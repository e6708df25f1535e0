use Rattle.std.proofs.Common.{subst, sym}
use Rattle.journal_rounds.specs.declared.fault.ResumeFault.{ResumeFault}
use Rattle.journal_rounds.specs.Counted.{CountsJournalFault}
use Rattle.journal_rounds.specs.Steps.{IsLongOpened}
use Rattle.journal_rounds.proofs.ExtendLemmas.{ours_before}
use Rattle.journal_rounds.proofs.RoomLemmas.{opening_counts}
use Rattle.journal_rounds.proofs.rest.open.Goals as goal

pub returns-in-Ok-clause-ours : goal.returns-in-Ok-clause-ours
returns-in-Ok-clause-ours g c =
    ours_before g.D.Disk.seen g.D.Disk.moment g.D.Disk.may_leave c.args.id.now c.args.part.now _ _ _ c.open_on.ensures.changes c.in-Ok.ensures.stands.image

pub returns-in-Err-clause-counts : goal.returns-in-Err-clause-counts
returns-in-Err-clause-counts g c =
    let id = c.args.id.now in
    let job = c.args.part.now in
    let seen = g.D.Disk.seen in
    let faults = g.D.Disk.faults in
    let counts = opening_counts id job (seen c.args.disk.now) (seen c.open_on.new.disk) (faults c.args.disk.now) (faults c.open_on.new.disk) c.in-Err.fault
    c.requires.short c.open_on.ensures.changes.read c.in-Err.ensures.fault in
    subst (λ (fault : ResumeFault). CountsJournalFault (IsLongOpened id job (seen c.args.disk.now) (seen c.open_on.new.disk)) (faults c.args.disk.now) (faults c.open_on.new.disk) fault)
    (sym c.opening_fault.ensures) counts
