use Rattle.job_join.proofs.StandsLemmas.{number-put, number-kept}
use Rattle.job_join.proofs.stands.number.Goals as goal

pub returns-then-has : goal.returns-then-has
returns-then-has c = λ q. number-kept c.args.numbers.now c.args.key.now q c.args.i (cc)

pub returns : goal.returns
returns c = λ q. number-put c.args.numbers.now c.put.new.self c.args.key.now q c.args.i c.in_ok-put.ensures.put (cc)
