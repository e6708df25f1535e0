use Rattle.std.proofs.Common.{◌≡◌, None}
use Rattle.named_list.specs.Named.{named}
use Rattle.job_text.proofs.StationLemmas.{new_key}
use Rattle.job_text.proofs.ChannelLemmas.{AreIndexed-push}
use Rattle.job_text.proofs.stations.Stations.add.Goals as goal

pub invariant_of-result : goal.invariant_of-result
invariant_of-result c =
    let none = rw (← c.self.view_is) at c.requires.new in
    let new : named c.self.inside.places c.args.station.key ≡ None = new_key c.self.inside.list.items c.self.inside.places c.self.invariant.at_places c.args.station.key none in
    rw (c.in_ok-put_station.ensures.list, c.in_ok-put_station.ensures.places) (AreIndexed-push c.self.invariant c.args.station new c.requires.bare c.requires.sound)
