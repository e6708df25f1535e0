use Rattle.vlbi_core.proofs.EngineLemmas.{opened-looked, opened-counts}
use Rattle.vlbi_core.proofs.status.look.Goals as goal

pub returns-in-Err-clause-refused : goal.returns-in-Err-clause-refused
returns-in-Err-clause-refused g c = rw c.opening_refusal.ensures (opened-looked _ _ _ c.in-Err.fault c.in-Err.ensures.refused)

pub returns-in-Err-clause-counts : goal.returns-in-Err-clause-counts
returns-in-Err-clause-counts g c = rw c.opening_refusal.ensures (opened-counts _ _ c.in-Err.fault c.in-Err.ensures.fault)
