use Rattle.std.proofs.Common.{arith}
use Rattle.piece_plan.specs.Epochs.{job_sizes}
use Rattle.piece_plan.proofs.LimitLemmas.{integrations-more, integrations-bound}
use Rattle.piece_plan.proofs.job.JobPlan.integrations.Goals as goal

pub overflow_add-count : goal.overflow_add-count
overflow_add-count c =
    let bound = integrations-bound (job_sizes c.self.inside.scans.items c.self.inside.integration c.self.inside.epoch c.self.inside.lags)
    c.loop-size.size-index c.self.invariant.0 in
    omega (arith, bound, c.loop-size.invariant, c.integrations_in-count.ensures.few)

pub loop-size-preserved : goal.loop-size-preserved
loop-size-preserved c =
    integrations-more (job_sizes c.self.inside.scans.items c.self.inside.integration c.self.inside.epoch c.self.inside.lags)
    c.deref-size-items.result.now c.loop-size.size-index c.loop-size.count c.integrations_in-count.result
    (record { first = 0; samples = 0; products = 0; baselines = 0 })
    c.deref-size-items.ensures.value c.loop-size-test.true c.loop-size.invariant
    (c.integrations_in-count.ensures.count c.self.inside.scans.items c.self.inside.epoch c.self.inside.lags)

pub returns-clause-bound : goal.returns-clause-bound
returns-clause-bound c =
    let bound = integrations-bound (job_sizes c.self.inside.scans.items c.self.inside.integration c.self.inside.epoch c.self.inside.lags)
    c.loop-size.size-index c.self.invariant.0 in
    omega (arith, bound, c.loop-size.invariant)
