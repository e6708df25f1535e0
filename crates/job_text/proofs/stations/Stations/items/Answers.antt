use Rattle.job_text.proofs.StationLemmas.{keys_differ}
use Rattle.job_text.proofs.stations.Stations.items.Goals as goal

pub returns-clause-once : goal.returns-clause-once
returns-clause-once c = rw (← c.self.view_is) (keys_differ c.self.inside.list.items c.self.inside.places c.self.invariant.at_places)
