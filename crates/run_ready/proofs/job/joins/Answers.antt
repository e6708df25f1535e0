use Rattle.std.specs.Prelude.{unwrap_or}
use Rattle.std.proofs.Common.{Ok, refl}
use Rattle.std.proofs.lemmas.Result.{err_from_is_err_and}
use Rattle.job_plan.specs.declared.plan.Plan.{Plan}
use Rattle.job_join.specs.Joined.{joined}
use Rattle.run_ready.specs.Steps.{Is, answered}
use Rattle.run_ready.specs.Outcome.{cause_answer}
use Rattle.run_ready.proofs.StepLemmas.{IsOfFiles-texts, IsCause-first}
use Rattle.run_ready.proofs.job.joins.Goals as goal

pub returns-in_err-plan-clause-cause : goal.returns-in_err-plan-clause-cause
returns-in_err-plan-clause-cause c =
    let job = c.args.read.job in
    let scans = c.args.schedule.list.scans in
    let p = err_from_is_err_and c.from_residual.result c.from_residual.ensures.1 in
    rw (p.1, p.2)
    (IsCause-first c.in_err-plan.field-0.0 (Is (answered (cause_answer job scans) (joined job (unwrap_or c.args.epoch job.epoch) scans))) (λ (plan : Plan). Is (Ok plan))
    (IsOfFiles-texts c.in_err-plan.field-0.0 c.in_err-plan.ensures.stage) c.in_err-plan.ensures.cause)

pub returns-clause-plan : goal.returns-clause-plan
returns-clause-plan c = (c.in_ok-plan.plan, c.in_ok-plan.ensures.plan, refl)
