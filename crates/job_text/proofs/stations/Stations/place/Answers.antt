use Rattle.std.proofs.Common.{◌≡◌, ◌∙◌}
use Rattle.named_list.specs.Named.{named}
use Rattle.job_text.proofs.StationLemmas.{place_there, place_none_by}
use Rattle.job_text.proofs.stations.Stations.place.Goals as goal

pub returns-clause-there : goal.returns-clause-there
returns-clause-there c =
    let same : c.copied.result ≡ named c.self.inside.places c.args.key.now = c.copied.ensures ∙ c.get.ensures in
    rw (← c.self.view_is) (place_there c.self.inside.list.items c.self.inside.places c.self.invariant.at_places c.args.key.now c.copied.result same)

pub returns-clause-none : goal.returns-clause-none
returns-clause-none c =
    let same : c.copied.result ≡ named c.self.inside.places c.args.key.now = c.copied.ensures ∙ c.get.ensures in
    rw (← c.self.view_is) (place_none_by c.self.inside.list.items c.self.inside.places c.self.invariant.at_places c.args.key.now c.copied.result same)
