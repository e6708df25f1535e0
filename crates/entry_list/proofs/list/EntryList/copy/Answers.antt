use Rattle.std.proofs.Common.{rules, ◌≡◌, ◌↔◌, ◌≢◌, IsTrue, take, get_or, ◌∙◌, subst}
use Rattle.std.specs.Prelude.{◌++◌, ◌∷◌, [], if◌then◌else◌}
use Rattle.std.specs.List.{All}
use Rattle.std.proofs.lemmas.List.{take_all}
use Rattle.entry_list.specs.Latest.{DifferInSecond}
use Rattle.entry_list.proofs.CopyLemmas.{copied-next}
use Rattle.entry_list.proofs.list.EntryList.copy.Goals as goal

pub loop-e-init : goal.loop-e-init
loop-e-init g c = c.new-list.ensures

pub loop-e-preserved : goal.loop-e-preserved
loop-e-preserved g c =
    let differ : DifferInSecond g.E.HasSecond.second_of c.deref-e-items.result.now = rw c.deref-e-items.ensures.value c.self.invariant.0 in
    let at : get_or c.deref-e-items.result.now c.loop-e.e-index c.e-item.result ≡ c.e-item.result = search rules in
    let list : c.loop-e.list ≡ take c.loop-e.e-index c.deref-e-items.result.now = c.loop-e.invariant in
    copied-next g.E.HasSecond.second_of c.deref-e-items.result.now c.add.new.self c.loop-e.e-index c.e-item.result c.in_ok-add.field-0
    differ c.loop-e-test.true at (subst (λ xs. IsTrue c.in_ok-add.field-0 ↔ All (λ x. g.E.HasSecond.second_of x ≢ g.E.HasSecond.second_of c.e-item.result) xs) list c.in_ok-add.ensures.answer)
    (subst (λ xs. c.add.new.self ≡ (if c.in_ok-add.field-0 then xs ++ c.e-item.result ∷ [] else xs)) list c.in_ok-add.ensures.after)

pub returns : goal.returns
returns g c =
    c.loop-e.invariant
    ∙ take_all c.loop-e.e-index c.deref-e-items.result.now c.loop-e-test.false
    ∙ c.deref-e-items.ensures.value
    ∙ c.self.view_is
