use Rattle.std.proofs.Common.{◌≡◌, ◌∙◌, ◌++◌, ◌∷◌, [], refl}
use Rattle.job_text.proofs.NameLemmas.{put-new}
use Rattle.job_text.proofs.StationLemmas.{IsStationOf-chan}
use Rattle.job_text.proofs.station.Station.add_chan.Goals as goal

pub invariant_of-self-2 : goal.invariant_of-self-2
invariant_of-self-2 c =
    let new = rw (← c.self.view_is) at c.requires.new in
    let place = rw (← c.self.view_is) at c.requires.place in
    let grown : c.put.new.self ≡ c.self.inside.chans ++ (c.args.name.now, c.args.place) ∷ [] = c.in_ok-put.ensures.put ∙ put-new c.self.inside.chans c.args.name.now c.args.place new in
    rw grown (IsStationOf-chan _ (c.args.name.now, c.args.place) c.self.invariant new place)

pub returns-clause-added : goal.returns-clause-added
returns-clause-added c =
    let new = rw (← c.self.view_is) at c.requires.new in
    let grown : c.put.new.self ≡ c.self.inside.chans ++ (c.args.name.now, c.args.place) ∷ [] = c.in_ok-put.ensures.put ∙ put-new c.self.inside.chans c.args.name.now c.args.place new in
    rw (← c.self.view_is) (rw grown refl)

pub returns-clause-sound : goal.returns-clause-sound
returns-clause-sound c =
    let new = rw (← c.self.view_is) at c.requires.new in
    let place = rw (← c.self.view_is) at c.requires.place in
    let grown : c.put.new.self ≡ c.self.inside.chans ++ (c.args.name.now, c.args.place) ∷ [] = c.in_ok-put.ensures.put ∙ put-new c.self.inside.chans c.args.name.now c.args.place new in
    rw grown (IsStationOf-chan _ (c.args.name.now, c.args.place) c.self.invariant new place)
