use Rattle.std.proofs.Common.{◌∙◌, sym}
use Rattle.named_list.proofs.NamedLemmas.{lookup-things}
use Rattle.named_list.proofs.named.Named.at.Goals as goal

pub returns-clause-under_its_name : goal.returns-clause-under_its_name
returns-clause-under_its_name g c =
    let found = rw c.unwrap.ensures at c.get_index.ensures.value in
    rw (← c.self.view_is, c.deref.ensures.value)
    (sym (lookup-things c.unwrap.result.0.now.items c.self.inside.things.entries) ∙ found)
