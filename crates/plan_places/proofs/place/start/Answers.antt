use Rattle.std.proofs.Common.{◌∙◌, sym}
use Rattle.plan_places.proofs.OrderedEpochs.{order-first}
use Rattle.plan_places.proofs.place.start.Goals as goal

pub returns-clause-first : goal.returns-clause-first
returns-clause-first c = c.begin_of.ensures.begin ∙ sym (order-first c.args.plan.now _ _ c.begin_of.ensures.cover)
