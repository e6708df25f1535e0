use Rattle.std.specs.Prelude.{unwrap_or}
use Rattle.std.proofs.Common.{arith}
use Rattle.run_ready.proofs.EpochLemmas.{few_epochs-joined}
use Rattle.run_ready.proofs.JoinLemmas.{few-joined, length-joined}
use Rattle.run_ready.proofs.scans.plan_of.Goals as goal

pub returns-in-Ok-clause-few : goal.returns-in-Ok-clause-few
returns-in-Ok-clause-few c = few-joined c.args.job.now (unwrap_or c.args.epoch c.args.job.now.epoch) c.args.list.now.scans c.in-Ok.plan c.in-Ok.ensures c.requires.few

pub returns-in-Ok-clause-few_scans : goal.returns-in-Ok-clause-few_scans
returns-in-Ok-clause-few_scans c =
    omega (arith, length-joined c.args.job.now (unwrap_or c.args.epoch c.args.job.now.epoch) c.args.list.now.scans c.in-Ok.plan c.in-Ok.ensures, c.requires.few_scans)

pub returns-in-Ok-clause-few_epochs : goal.returns-in-Ok-clause-few_epochs
returns-in-Ok-clause-few_epochs c =
    few_epochs-joined c.args.job.now c.args.epoch c.args.list.now.scans c.in-Ok.plan c.plan-ranges.ensures.ranges c.requires.epoch c.in-Ok.ensures
