use Rattle.shard_merge.proofs.LawOutput.{merged-output}
use Rattle.shard_merge.proofs.laws.honest_shards_make_the_output.Goals as goal

pub returns : goal.returns
returns c = λ plan files keeps is fit honest passes. merged-output plan files keeps is fit honest passes
