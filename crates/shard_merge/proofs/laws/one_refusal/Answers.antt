use Rattle.shard_merge.proofs.LawShards.{shard-refused, differs-one}
use Rattle.shard_merge.proofs.laws.one_refusal.Goals as goal

pub returns : goal.returns
returns c = record {
  none = λ id job image kept d is refused keeps. shard-refused id job image kept d refused keeps;
  place = differs-one;
}
