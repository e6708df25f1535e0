use Rattle.std.proofs.Common.{sym}
use Rattle.checkpoint_journal.proofs.AnswerLemmas.{look-sees, look-many, look-place, look-refused, look-no_fault, look-fault}
use Rattle.checkpoint_journal.proofs.journal.Journal.look.Goals as goal

pub returns-clause-sees : goal.returns-clause-sees
returns-clause-sees g c = rw (sym c.bytes-bytes.ensures.is)
    (look-sees c.bytes-bytes.result.now c.args.plan.now (g.D.Disk.seen c.args.disk.now) c.find-found.result c.seen_of.result (rw c.bytes-bytes.ensures.is c.bytes-bytes.ensures.named) c.find-found.ensures.job c.seen_of.ensures c.find-found.ensures.finds)

pub returns-clause-many : goal.returns-clause-many
returns-clause-many g c = look-many c.args.plan.now c.find-found.result c.seen_of.result c.seen_of.ensures c.find-found.ensures.place

pub returns-clause-place : goal.returns-clause-place
returns-clause-place g c = look-place c.args.plan.now c.find-found.result c.seen_of.result c.seen_of.ensures c.find-found.ensures.place

pub returns-clause-refused : goal.returns-clause-refused
returns-clause-refused g c = rw (sym c.bytes-bytes.ensures.is)
    (look-refused c.bytes-bytes.result.now c.args.plan.now (g.D.Disk.seen c.args.disk.now) c.find-found.result c.seen_of.result c.seen_of.ensures c.find-found.ensures.finds)

pub returns-clause-no_fault : goal.returns-clause-no_fault
returns-clause-no_fault g c = look-no_fault c.args.plan.now _ _ c.find-found.result c.seen_of.result c.seen_of.ensures c.find-found.ensures.counts

pub returns-clause-fault : goal.returns-clause-fault
returns-clause-fault g c = look-fault c.args.plan.now _ _ c.find-found.result c.seen_of.result c.seen_of.ensures c.find-found.ensures.counts
