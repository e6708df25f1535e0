use Rattle.std.proofs.Common.{Some, None, inr}
use Rattle.std.proofs.lemmas.Result.{err_from_is_err_and}
use Rattle.job_text.specs.Numbers.{job_from}
use Rattle.job_text.proofs.AnswerLemmas.{job_in-refused, job_in-read}
use Rattle.job_text.proofs.read.take_text.Goals as goal

pub returns-in_err-take_lines-clause-value : goal.returns-in_err-take_lines-clause-value
returns-in_err-take_lines-clause-value c =
    let p = err_from_is_err_and c.from_residual.result c.from_residual.ensures.1 in
    rw (p.1, p.2) (job_in-refused c.args.inline c.args.text.now _ c.in_err-take_lines.ensures.read)

pub returns-in-Some-clause-value : goal.returns-in-Some-clause-value
returns-in-Some-clause-value c =
    job_in-read c.args.inline c.args.text.now c.take_lines.new.draft (Some (job_from c.take_lines.new.draft c.in-Some.numbers)) c.in_ok-take_lines.ensures.read c.in-Some.ensures.value

pub returns-in-None-clause-value : goal.returns-in-None-clause-value
returns-in-None-clause-value c =
    inr (job_in-read c.args.inline c.args.text.now c.take_lines.new.draft None c.in_ok-take_lines.ensures.read c.in-None.ensures.value)
