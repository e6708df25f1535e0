use Rattle.plan_places.proofs.AfterLemmas.{after-IsPlace}
use Rattle.plan_places.proofs.laws.places_after_are_places.Goals as goal

pub returns : goal.returns
returns c = after-IsPlace
