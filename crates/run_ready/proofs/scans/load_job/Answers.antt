use Rattle.std.proofs.Common.{◌≤◌, ◌<◌, ◌^◌, length, arith, ap}
use Rattle.job_text.proofs.WholeLemmas.{few-of}
use Rattle.run_ready.proofs.JobLemmas.{few-job_in, rate-job_in}
use Rattle.run_ready.proofs.scans.load_job.Goals as goal

pub returns-clause-rate : goal.returns-clause-rate
returns-clause-rate g c = rate-job_in c.args.inline c.deref.result.now c.in_ok-job.job c.in_ok-job.ensures.job

pub returns-clause-few : goal.returns-clause-few
returns-clause-few g c =
    let short : length c.deref.result.now < 2 ^ 32 = omega (arith, c.in_ok-text.ensures.short, ap length c.deref.ensures.value) in
    few-job_in c.args.inline c.deref.result.now c.in_ok-job.job short c.in_ok-job.ensures.job

pub returns-clause-few_scans : goal.returns-clause-few_scans
returns-clause-few_scans g c =
    let short : length c.deref.result.now ≤ 8388608 = omega (arith, c.in_ok-text.ensures.short, ap length c.deref.ensures.value) in
    omega (arith, (few-of c.args.inline c.deref.result.now c.in_ok-job.job c.in_ok-job.ensures.job).0, short)
