use Rattle.shard_merge.proofs.LawShards.{keeps-one}
use Rattle.shard_merge.proofs.laws.one_list.Goals as goal

pub returns : goal.returns
returns c = keeps-one
