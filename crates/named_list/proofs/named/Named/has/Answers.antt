use Rattle.std.proofs.Common.{◌∙◌, ap, is_some}
use Rattle.named_list.proofs.NamedLemmas.{lookup-things}
use Rattle.named_list.proofs.named.Named.has.Goals as goal

pub returns : goal.returns
returns g c = rw (← c.self.view_is) (c.contains_key.ensures ∙ ap is_some (lookup-things c.args.name.now c.self.inside.things.entries))
