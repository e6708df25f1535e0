use Rattle.shard_merge.specs.Verdict.{verdict}
use Rattle.shard_merge.proofs.comparison.compare.Goals as goal

pub returns-clause-verdict : goal.returns-clause-verdict
unfolding verdict
returns-clause-verdict g c = c.compare_scans.ensures.verdict
