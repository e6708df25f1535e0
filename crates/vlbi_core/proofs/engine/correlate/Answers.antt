use Rattle.vlbi_core.proofs.EngineLemmas.{summed-ok, summed-stage, summed-counts}
use Rattle.vlbi_core.proofs.engine.correlate.Goals as goal

pub returns-clause-sums : goal.returns-clause-sums
returns-clause-sums g c = rw c.summed.ensures (summed-ok c.correlate.result _ c.correlate.ensures.sums)

pub returns-clause-pieces : goal.returns-clause-pieces
returns-clause-pieces g c = rw c.summed.ensures (summed-ok c.correlate.result _ c.correlate.ensures.pieces)

pub returns-clause-stage : goal.returns-clause-stage
returns-clause-stage g c = rw c.summed.ensures (summed-stage c.correlate.result)

pub returns-clause-counts : goal.returns-clause-counts
returns-clause-counts g c = rw c.summed.ensures (summed-counts _ _ c.correlate.result c.correlate.ensures.counts)
