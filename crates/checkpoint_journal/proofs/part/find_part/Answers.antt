use Rattle.checkpoint_journal.proofs.RunLemmas.{looks_both}
use Rattle.checkpoint_journal.proofs.part.find_part.Goals as goal

pub returns-in-Some-clause-looks : goal.returns-in-Some-clause-looks
returns-in-Some-clause-looks g c = looks_both g.D.Disk.seen g.D.Disk.moment g.D.Disk.may_leave _ _ _ c.begun_len.ensures.looks c.part_begun.ensures.looks
