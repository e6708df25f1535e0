use Rattle.checkpoint_journal.proofs.RunLemmas.{looks_after}
use Rattle.checkpoint_journal.proofs.reader.begun_len.Goals as goal

pub returns-in_err-head-clause-looks : goal.returns-in_err-head-clause-looks
returns-in_err-head-clause-looks g c = looks_after g.D.Disk.seen g.D.Disk.moment g.D.Disk.may_leave _ _ _ c.len.ensures.same c.len.ensures.goes c.byte_at.ensures.looks

pub returns-then-head-ne1-clause-looks : goal.returns-then-head-ne1-clause-looks
returns-then-head-ne1-clause-looks g c = looks_after g.D.Disk.seen g.D.Disk.moment g.D.Disk.may_leave _ _ _ c.len.ensures.same c.len.ensures.goes c.byte_at.ensures.looks

pub returns-clause-looks : goal.returns-clause-looks
returns-clause-looks g c = looks_after g.D.Disk.seen g.D.Disk.moment g.D.Disk.may_leave _ _ _ c.len.ensures.same c.len.ensures.goes c.byte_at.ensures.looks
