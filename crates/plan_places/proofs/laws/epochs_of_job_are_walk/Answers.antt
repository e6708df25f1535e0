use Rattle.plan_places.proofs.OwnWalk.{epochs-IsWalk}
use Rattle.plan_places.proofs.laws.epochs_of_job_are_walk.Goals as goal

pub returns : goal.returns
returns c = epochs-IsWalk
