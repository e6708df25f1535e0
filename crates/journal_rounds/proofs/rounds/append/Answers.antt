use Rattle.journal_rounds.proofs.ExtendLemmas.{goes_more, named_after}
use Rattle.journal_rounds.proofs.RoomLemmas.{append_counts}
use Rattle.journal_rounds.proofs.rounds.append.Goals as goal

pub append-requires-clause-stands : goal.append-requires-clause-stands
append-requires-clause-stands g c = (c.args._id.now, c.requires.stands)

pub returns-in-Ok-clause-changes : goal.returns-in-Ok-clause-changes
returns-in-Ok-clause-changes g c told are =
    let ready = c.args._ready.now in
    let summed = c.args.summed.now in
    goes_more g.D.Disk.seen g.D.Disk.moment g.D.Disk.may_leave told ready.plan c.args._id.now c.args.part.now c.args.journal.now.end.kept summed.epoch summed.sums.cells c.args._epoch _ _
    are.sums.cells c.requires.cut.1 (c.append.ensures.changes c.args._id.now c.requires.stands)

pub returns-in-Err-Disk-clause-changes : goal.returns-in-Err-Disk-clause-changes
returns-in-Err-Disk-clause-changes g c told are =
    let ready = c.args._ready.now in
    let summed = c.args.summed.now in
    goes_more g.D.Disk.seen g.D.Disk.moment g.D.Disk.may_leave told ready.plan c.args._id.now c.args.part.now c.args.journal.now.end.kept summed.epoch summed.sums.cells c.args._epoch _ _
    are.sums.cells c.requires.cut.1 (c.append.ensures.changes c.args._id.now c.requires.stands)

pub returns-in-Err-Disk-clause-named : goal.returns-in-Err-Disk-clause-named
returns-in-Err-Disk-clause-named g c =
    named_after g.D.Disk.seen g.D.Disk.moment g.D.Disk.may_leave c.args._id.now c.args.part.now c.args.journal.now _ _ _ _ c.kept-kept.ensures c.requires.stands
    (c.append.ensures.changes c.args._id.now c.requires.stands)

pub returns-in-Err-Disk-clause-counts : goal.returns-in-Err-Disk-clause-counts
returns-in-Err-Disk-clause-counts g c =
    let summed = c.args.summed.now in
    append_counts c.args._id.now c.args.part.now c.args.journal.now summed.epoch _ _ _ _ _ c.requires.stands.image
    c.requires.sums.sums.count c.requires.sums.of_plan.cells c.in-Err-Disk.ensures.fault c.in-Err-Disk.ensures.unwritten
