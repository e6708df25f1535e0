use Rattle.shard_merge.proofs.LawShards.{keeps-fit}
use Rattle.shard_merge.proofs.laws.kept_epochs_fit.Goals as goal

pub returns : goal.returns
returns c = keeps-fit
