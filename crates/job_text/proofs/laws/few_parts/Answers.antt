use Rattle.job_text.proofs.WholeLemmas.{few-of}
use Rattle.job_text.proofs.laws.few_parts.Goals as goal

pub returns : goal.returns
returns c = λ inline text job h. few-of inline text job h
