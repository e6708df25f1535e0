use Rattle.std.proofs.Common.{inl, sym}
use Rattle.checkpoint_journal.proofs.RunLemmas.{changes_none, looks_none}
use Rattle.checkpoint_journal.specs.Runs.{KeepsEpochs}
use Rattle.checkpoint_journal.proofs.BeginLemmas.{epochs_stay}
use Rattle.checkpoint_journal.proofs.AnswerLemmas.{opening-stands, opening-rewound, opening-refused, opening-unread, opening-no_fault, opening-fault}
use Rattle.checkpoint_journal.proofs.journal.Journal.open_on.Goals as goal

pub returns-in_default-clause-changes : goal.returns-in_default-clause-changes
returns-in_default-clause-changes g c =
    changes_none g.D.Disk.seen g.D.Disk.moment g.D.Disk.may_leave (KeepsEpochs c.args.id.now c.args.plan.now) (epochs_stay c.args.id.now c.args.plan.now) c.args.disk.now

pub returns-in_default-clause-spares : goal.returns-in_default-clause-spares
returns-in_default-clause-spares g c = inl (looks_none g.D.Disk.seen g.D.Disk.moment g.D.Disk.may_leave c.args.disk.now)

pub returns-clause-stands : goal.returns-clause-stands
returns-clause-stands g c = rw (sym c.bytes-bytes.ensures.is)
    (opening-stands c.bytes-bytes.result.now c.args.plan.now (g.D.Disk.seen c.args.disk.now) (g.D.Disk.seen c.open-opening.new.disk) (g.D.Disk.may_leave c.open-opening.new.disk (g.D.Disk.moment c.open-opening.new.disk))
    c.open-opening.result c.journal_of.result (rw c.bytes-bytes.ensures.is c.bytes-bytes.ensures.named) c.journal_of.ensures c.open-opening.ensures.opens c.open-opening.ensures.ready c.open-opening.ensures.job c.open-opening.ensures.durable)

pub returns-clause-rewound : goal.returns-clause-rewound
returns-clause-rewound g c = opening-rewound c.bytes-bytes.result.now c.args.plan.now c.open-opening.result c.journal_of.result c.journal_of.ensures

pub returns-clause-changes : goal.returns-clause-changes
returns-clause-changes g c = rw (sym c.bytes-bytes.ensures.is) c.open-opening.ensures.changes

pub returns-clause-spares : goal.returns-clause-spares
returns-clause-spares g c = rw (sym c.bytes-bytes.ensures.is) c.open-opening.ensures.spares

pub returns-clause-refused : goal.returns-clause-refused
returns-clause-refused g c = rw (sym c.bytes-bytes.ensures.is)
    (opening-refused c.bytes-bytes.result.now c.args.plan.now (g.D.Disk.seen c.args.disk.now) (g.D.Disk.seen c.open-opening.new.disk) c.open-opening.result c.journal_of.result c.journal_of.ensures c.open-opening.ensures.opens)

pub returns-clause-unread : goal.returns-clause-unread
returns-clause-unread g c =
    opening-unread c.bytes-bytes.result.now c.args.plan.now (g.D.Disk.seen c.args.disk.now) (g.D.Disk.seen c.open-opening.new.disk) c.open-opening.result c.journal_of.result c.journal_of.ensures c.open-opening.ensures.opens

pub returns-clause-no_fault : goal.returns-clause-no_fault
returns-clause-no_fault g c = opening-no_fault c.bytes-bytes.result.now c.args.plan.now _ _ c.open-opening.result c.journal_of.result c.journal_of.ensures c.open-opening.ensures.counts

pub returns-clause-fault : goal.returns-clause-fault
returns-clause-fault g c = rw (sym c.bytes-bytes.ensures.is)
    (opening-fault c.bytes-bytes.result.now c.args.plan.now (g.D.Disk.seen c.args.disk.now) (g.D.Disk.seen c.open-opening.new.disk) _ _ c.open-opening.result c.journal_of.result c.journal_of.ensures c.open-opening.ensures.opens c.open-opening.ensures.counts)
