use Rattle.named_list.proofs.NamedLemmas.{names_differ}
use Rattle.named_list.proofs.named.Named.len.Goals as goal

pub returns-clause-once : goal.returns-clause-once
returns-clause-once g c = rw (← c.self.view_is) (names_differ c.self.inside.things.entries c.len.ensures.unique)
