use Rattle.named_list.proofs.NamedLemmas.{place-there, place-none}
use Rattle.named_list.proofs.named.Named.place.Goals as goal

pub returns-clause-there : goal.returns-clause-there
returns-clause-there g c = rw (← c.self.view_is) (place-there c.args.name.now c.self.inside.things.entries c.get_index_of.result c.get_index_of.ensures.value)

pub returns-clause-none : goal.returns-clause-none
returns-clause-none g c = rw (← c.self.view_is) (place-none c.args.name.now c.self.inside.things.entries c.get_index_of.result c.get_index_of.ensures.found)
