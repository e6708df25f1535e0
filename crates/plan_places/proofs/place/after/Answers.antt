use Rattle.std.proofs.Common.{◌∙◌, sym}
use Rattle.plan_places.proofs.CutLemmas.{after-inside-last, after-end-last}
use Rattle.plan_places.proofs.place.after.Goals as goal

pub returns-then-e-last-clause-after : goal.returns-then-e-last-clause-after
returns-then-e-last-clause-after c =
    sym (after-inside-last c.args.plan.now c.args.e.now c.integration_last-i.result.1 c.requires c.integration_last-i.ensures.last c.if-e-last.true)

pub returns-else-e-last-clause-after : goal.returns-else-e-last-clause-after
returns-else-e-last-clause-after c =
    c.begin_of.ensures.begin ∙ sym c.integration_last-i.ensures.next
    ∙ sym (after-end-last c.args.plan.now c.args.e.now c.integration_last-i.result.1 c.requires c.integration_last-i.ensures.last c.if-e-last.false)
