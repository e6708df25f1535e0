use Rattle.std.proofs.Common.{◌∙◌}
use Rattle.named_list.proofs.NamedLemmas.{lookup-things}
use Rattle.named_list.proofs.named.Named.get.Goals as goal

pub returns : goal.returns
returns g c = rw (← c.self.view_is) (c.get.ensures.value ∙ lookup-things c.args.name.now c.self.inside.things.entries)
