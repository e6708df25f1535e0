use Rattle.vlbi_core.proofs.EngineLemmas.{resumed-ok, resumed-refused, resumed-named, resumed-reads, resumed-journal}
use Rattle.vlbi_core.proofs.engine.resume_part.Goals as goal

pub returns-clause-stands : goal.returns-clause-stands
returns-clause-stands g c = rw c.resumed.ensures (resumed-ok c.resume.result _ c.resume.ensures.stands)

pub returns-clause-covers : goal.returns-clause-covers
returns-clause-covers g c = rw c.resumed.ensures (resumed-ok c.resume.result _ c.resume.ensures.covers)

pub returns-clause-refused : goal.returns-clause-refused
returns-clause-refused g c = rw c.resumed.ensures (resumed-refused _ _ _ _ c.resume.result c.resume.ensures.refused)

pub returns-clause-named : goal.returns-clause-named
returns-clause-named g c = rw c.resumed.ensures (resumed-named _ _ _ c.resume.result c.resume.ensures.named)

pub returns-clause-reads : goal.returns-clause-reads
returns-clause-reads g c = rw c.resumed.ensures (resumed-reads _ _ c.resume.result c.resume.ensures.reads)

pub returns-clause-journal : goal.returns-clause-journal
returns-clause-journal g c = rw c.resumed.ensures (resumed-journal _ _ _ c.resume.result c.resume.ensures.journal)
