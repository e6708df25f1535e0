use Rattle.run_sums.proofs.FoundLemmas.{job-scan}
use Rattle.run_sums.proofs.summed.is_of_job.Goals as goal

pub returns : goal.returns
returns c =
    let ready = c.args._ready.now in
    job-scan ready.plan ready.epochs c.args._e.now c.plan-plan.ensures.ranges ready.few ready.cut c.requires
