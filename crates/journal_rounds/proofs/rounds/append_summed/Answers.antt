use Rattle.checkpoint_journal.proofs.RunLemmas.{changes_none}
use Rattle.journal_rounds.specs.Extended.{IsSummed, Extends}
use Rattle.journal_rounds.proofs.ExtendLemmas.{extends_same}
use Rattle.journal_rounds.proofs.rounds.append_summed.Goals as goal

pub returns-in-None-clause-changes : goal.returns-in-None-clause-changes
returns-in-None-clause-changes g c told are =
    let ready = c.args.ready.now in
    let job = c.args.part.now in
    changes_none g.D.Disk.seen g.D.Disk.moment g.D.Disk.may_leave (Extends (IsSummed told ready.plan job c.args.epoch) c.args.id.now job)
    (extends_same (IsSummed told ready.plan job c.args.epoch) c.args.id.now job) c.args.disk.now
