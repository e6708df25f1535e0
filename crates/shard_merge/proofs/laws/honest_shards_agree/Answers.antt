use Rattle.shard_merge.proofs.LawOutput.{shards-agree}
use Rattle.shard_merge.proofs.laws.honest_shards_agree.Goals as goal

pub returns : goal.returns
returns c = λ plan files keeps d is fit honest. shards-agree plan files keeps is fit honest d
