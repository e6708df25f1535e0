use Rattle.std.proofs.Common.{sym, ◌∙◌}
use Rattle.run_words.proofs.Counts.{number_in-other, number_in-read, number_in-large}
use Rattle.run_words.proofs.numbers.number_in.Goals as goal

pub returns-then-not-is_count-clause-number : goal.returns-then-not-is_count-clause-number
returns-then-not-is_count-clause-number c = number_in-other c.args.least c.args.most c.args.text.now (sym c.is_count.ensures ∙ c.if-not-is_count.true)

pub returns-in-Ok-clause-number : goal.returns-in-Ok-clause-number
returns-in-Ok-clause-number c =
    number_in-read c.args.least c.args.most c.args.text.now c.in-Ok.number c.within.result (sym c.is_count.ensures ∙ c.if-not-is_count.false) c.in-Ok.ensures.value.0 c.within.ensures.number

pub returns-in-Err-clause-number : goal.returns-in-Err-clause-number
returns-in-Err-clause-number c =
    number_in-large c.args.least c.args.most c.args.text.now c.in-Err.field-0 (sym c.is_count.ensures ∙ c.if-not-is_count.false) c.ranges.most.fits c.in-Err.ensures.value.0
