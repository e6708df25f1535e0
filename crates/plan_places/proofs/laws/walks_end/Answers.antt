use Rattle.plan_places.proofs.WholeWalks.{walk-from}
use Rattle.plan_places.proofs.laws.walks_end.Goals as goal

pub returns : goal.returns
returns c = walk-from
