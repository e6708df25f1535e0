use Rattle.plan_places.proofs.WholeWalks.{walk-AreInOrder}
use Rattle.plan_places.proofs.laws.walks_are_in_order.Goals as goal

pub returns : goal.returns
returns c = walk-AreInOrder
