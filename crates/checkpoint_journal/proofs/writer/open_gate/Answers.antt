use Rattle.checkpoint_journal.proofs.KeepLemmas.{told_opened, part_gate}
use Rattle.checkpoint_journal.proofs.writer.open_gate.Goals as goal

pub returns-in_err-write_synced-clause-changes : goal.returns-in_err-write_synced-clause-changes
returns-in_err-write_synced-clause-changes g c = λ id job r t bytes named is staged.
    part_gate id job named is r t c.args.gate bytes g.D.Disk.seen g.D.Disk.moment g.D.Disk.may_leave g.met.D.Disk.seen_is_image _ _ c.requires.durable staged c.write_synced.ensures.tells c.write_synced.ensures.goes

pub returns-clause-changes : goal.returns-clause-changes
returns-clause-changes g c = λ id job r t bytes named is staged.
    part_gate id job named is r t c.args.gate bytes g.D.Disk.seen g.D.Disk.moment g.D.Disk.may_leave g.met.D.Disk.seen_is_image _ _ c.requires.durable staged c.write_synced.ensures.tells c.write_synced.ensures.goes

pub returns-clause-added : goal.returns-clause-added
returns-clause-added g c = λ id job r t bytes named is staged.
    told_opened id job named is r t c.args.gate bytes _ _ staged c.in_ok-write_synced.ensures.written
