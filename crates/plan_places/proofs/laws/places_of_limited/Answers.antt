use Rattle.std.proofs.Common.{◌≤◌, ◌<◌}
use Rattle.piece_plan.specs.Limited.{integration_number, limited}
use Rattle.plan_places.proofs.LimitLemmas.{places-by-epochs}
use Rattle.plan_places.proofs.laws.places_of_limited.Goals as goal

pub returns : goal.returns
returns c job from to p is =
    places-by-epochs job (limited job from to) (λ q. from ≤ integration_number job q) (λ q. integration_number job q < to) p
    (λ e. c.epochs_of_limited.ensures job from to e is)
