use Rattle.std.proofs.Common.{sym, ◌∙◌, rules, w64, FitsSigned}
use Rattle.job_lines.proofs.WholeLemmas.{behind-more, behind-fails, behind-none}
use Rattle.job_lines.proofs.values.wholes_of.Goals as goal

pub loop-text-preserved : goal.loop-text-preserved
loop-text-preserved c =
    let fits : FitsSigned w64 c.in-Some.number = search rules in
    behind-more (λ text. text.now) c.loop-text.numbers.items c.args.texts.now c.loop-text.text-index _ c.in-Some.number c.push.new.self.items c.loop-text-test.true (sym c.whole_of.ensures ∙ c.in-Some.is) fits c.in_ok-push.ensures.items
    ∙ c.loop-text.invariant

pub returns-in_default : goal.returns-in_default
returns-in_default c =
    sym (behind-fails (λ text. text.now) c.loop-text.numbers.items c.args.texts.now c.loop-text.text-index _ c.loop-text-test.true (sym c.whole_of.ensures ∙ c.in_default.is)) ∙ c.loop-text.invariant

pub returns : goal.returns
returns c = sym (behind-none (λ text. text.now) c.loop-text.numbers.items c.args.texts.now c.loop-text.text-index c.loop-text-test.false) ∙ c.loop-text.invariant
