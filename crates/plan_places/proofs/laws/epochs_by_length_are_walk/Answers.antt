use Rattle.plan_places.proofs.LeftLemmas.{epochs_by-IsWalk}
use Rattle.plan_places.proofs.laws.epochs_by_length_are_walk.Goals as goal

pub returns : goal.returns
returns c = epochs_by-IsWalk
