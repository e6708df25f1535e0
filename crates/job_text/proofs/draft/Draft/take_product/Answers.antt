use Rattle.std.proofs.Common.{inr, map, sym, ◌∙◌}
use Rattle.job_text.proofs.DraftLemmas.{row_fault-unknown, row_fault-pair, grown-Product}
use Rattle.job_text.proofs.draft.Draft.take_product.Goals as goal

pub returns-then-not-are_channels-clause-taken : goal.returns-then-not-are_channels-clause-taken
returns-then-not-are_channels-clause-taken c =
    let known = rw (c.field-x.ensures, c.field-y.ensures) at c.are_channels.ensures.value in
    inr (rw (← c.self.view_is) (row_fault-unknown _ (map (λ field. field.now) c.args.fields.now) (sym known ∙ c.if-not-are_channels.true)))

pub returns-then-not-branch-clause-taken : goal.returns-then-not-branch-clause-taken
returns-then-not-branch-clause-taken c =
    let known = rw (c.field-x.ensures, c.field-y.ensures) at c.are_channels.ensures.value in
    let answer = rw (c.field-x.ensures, c.field-y.ensures) at c.in_ok-add.ensures.answer in
    inr (rw (← c.self.view_is) (row_fault-pair _ (map (λ field. field.now) c.args.fields.now) (sym known ∙ c.if-not-are_channels.false) c.in_ok-add.field-0 answer c.if-not-branch.true))

pub returns-clause-taken : goal.returns-clause-taken
returns-clause-taken c =
    let known = rw (c.field-x.ensures, c.field-y.ensures) at c.are_channels.ensures.value in
    let answer = rw (c.field-x.ensures, c.field-y.ensures) at c.in_ok-add.ensures.answer in
    let after = rw (c.if-not-branch.false, c.field-x.ensures, c.field-y.ensures) at c.in_ok-add.ensures.after in
    rw (← c.self.view_is) (grown-Product _ (map (λ field. field.now) c.args.fields.now) (sym known ∙ c.if-not-are_channels.false) c.in_ok-add.field-0 answer c.if-not-branch.false c.add.new.self after)
