use Rattle.std.proofs.Common.{◌≡◌, ◌∙◌, ap, rules}
use Rattle.named_list.specs.Named.{named, put}
use Rattle.named_list.proofs.NamedLemmas.{things, things-insert_entry, lookup-things}
use Rattle.named_list.proofs.named.Named.put.Goals as goal

pub returns-clause-put : goal.returns-clause-put
returns-clause-put g c =
    let copied : c.in_ok-name.name.items ≡ c.args.name.now = search rules in
    rw (← c.self.view_is)
    (ap things c.in_ok-insert.ensures.entries
    ∙ things-insert_entry c.self.inside.things.entries c.in_ok-name.name c.args.thing
    ∙ ap (λ name. put (things c.self.inside.things.entries) name c.args.thing) copied)

pub returns-clause-before : goal.returns-clause-before
returns-clause-before g c =
    let copied : c.in_ok-name.name.items ≡ c.args.name.now = search rules in
    rw (← c.self.view_is)
    (c.in_ok-insert.ensures.old
    ∙ lookup-things c.in_ok-name.name.items c.self.inside.things.entries
    ∙ ap (named (things c.self.inside.things.entries)) copied)
