use Rattle.std.proofs.Common.{◌≡◌, inr, true, sym, ◌∙◌}
use Rattle.job_lines.specs.Rows.{is_clean}
use Rattle.job_text.proofs.TextLemmas.{fields-texts}
use Rattle.job_text.proofs.RowLemmas.{line_fault-unclean, taken-fields}
use Rattle.job_text.proofs.rows.take_clean.Goals as goal

pub returns-then-not-is_clean-clause-taken : goal.returns-then-not-is_clean-clause-taken
returns-then-not-is_clean-clause-taken c = inr (line_fault-unclean c.args.inline c.args.draft.now c.args.line.now (sym c.is_clean.ensures ∙ c.if-not-is_clean.true))

pub take_fields-requires : goal.take_fields-requires
take_fields-requires c =
    let clean : is_clean c.args.line.now ≡ true = sym c.is_clean.ensures ∙ c.if-not-is_clean.false in
    rw (c.deref.ensures.value, c.in_ok-fields.ensures) (fields-texts c.args.line.now clean)

pub returns-clause-taken : goal.returns-clause-taken
returns-clause-taken c =
    let clean : is_clean c.args.line.now ≡ true = sym c.is_clean.ensures ∙ c.if-not-is_clean.false in
    let taken = rw (c.deref.ensures.value, c.in_ok-fields.ensures) at c.take_fields.ensures.taken in
    taken-fields c.args.inline c.args.draft.now c.args.line.now c.take_fields.result c.take_fields.new.draft clean taken
