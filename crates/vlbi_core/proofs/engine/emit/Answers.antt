use Rattle.vlbi_core.proofs.EngineLemmas.{emitted-written, emitted-grows, emitted-refused, emitted-journal, emitted-writes}
use Rattle.vlbi_core.proofs.engine.emit.Goals as goal

pub returns-clause-written : goal.returns-clause-written
returns-clause-written g c = λ id stands. rw c.emitted.ensures (emitted-written _ id _ _ _ c.emit.result (c.emit.ensures.written id stands))

pub returns-clause-grows : goal.returns-clause-grows
returns-clause-grows g c = rw c.emitted.ensures (emitted-grows _ _ c.emit.result c.emit.ensures.grows)

pub returns-clause-refused : goal.returns-clause-refused
returns-clause-refused g c = rw c.emitted.ensures (emitted-refused _ _ _ c.emit.result c.emit.ensures.refused)

pub returns-clause-journal : goal.returns-clause-journal
returns-clause-journal g c = rw c.emitted.ensures (emitted-journal _ _ c.emit.result c.emit.ensures.journal)

pub returns-clause-writes : goal.returns-clause-writes
returns-clause-writes g c = rw c.emitted.ensures (emitted-writes _ _ c.emit.result c.emit.ensures.writes)
