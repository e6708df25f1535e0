use Rattle.plan_places.proofs.LeftLemmas.{left-within}
use Rattle.plan_places.proofs.laws.no_more_are_left_than_all.Goals as goal

pub returns : goal.returns
returns c = left-within
