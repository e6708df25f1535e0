-- The plan and the bins of a job.
use Rattle.run_bins.specs.declared.job.BinJob.{BinJob}
use Rattle.run_bins.specs.Texts.{BinPlan}

abbrev pub plan_of : BinJob → BinPlan
plan_of job = record { plan = job.ready.plan; bins = job.bins }
