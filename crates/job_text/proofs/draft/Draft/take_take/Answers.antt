use Rattle.std.proofs.Common.{inr, map, refl, sym, ap, ◌∙◌}
use Rattle.named_list.specs.Named.{names}
use Rattle.job_text.specs.Values.{field}
use Rattle.job_text.proofs.NameLemmas.{named-none, names-put}
use Rattle.job_text.proofs.DraftLemmas.{row_fault-take, grown-Take}
use Rattle.job_text.proofs.draft.Draft.take_take.Goals as goal

pub returns-then-has : goal.returns-then-has
returns-then-has c =
    let found = rw c.field.ensures at c.has.ensures in
    inr (rw (← c.self.view_is) (row_fault-take _ (map (λ field. field.now) c.args.fields.now) c.self.inside.takes refl (sym found ∙ c.if-has.true)))

pub returns : goal.returns
returns c =
    let name = field (map (λ field. field.now) c.args.fields.now) 0 in
    let found = rw c.field.ensures at c.has.ensures in
    let free = sym found ∙ c.if-has.false in
    let put = rw c.field-2.ensures at c.in_ok-put.ensures.put in
    rw (← c.self.view_is) (grown-Take _ (map (λ field. field.now) c.args.fields.now) c.self.inside.takes refl free (names c.put.new.self) (ap names put ∙ names-put c.self.inside.takes name _ (named-none c.self.inside.takes name free)))
