use Rattle.std.proofs.Common.{arith}
use Rattle.job_join.proofs.TakesLemmas.{is_taken-some}
use Rattle.job_join.proofs.takes.is_taken.Goals as goal

pub returns-else-len-eq0 : goal.returns-else-len-eq0
returns-else-len-eq0 c = search (arith, is_taken-some c.args.takes.now c.args.scan.now (omega arith))
