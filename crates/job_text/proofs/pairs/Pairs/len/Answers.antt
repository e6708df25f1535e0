use Rattle.job_text.proofs.PairLemmas.{pairs_differ}
use Rattle.job_text.proofs.pairs.Pairs.len.Goals as goal

pub returns-clause-once : goal.returns-clause-once
returns-clause-once c = rw (← c.self.view_is) (pairs_differ c.self.inside.pairs.keys c.len.ensures.unique)
