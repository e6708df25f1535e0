use Rattle.std.proofs.Common.{arith}
use Rattle.job_epochs.proofs.SizeLemmas.{sizes-IsJob}
use Rattle.job_epochs.proofs.epochs.plan_epochs.Goals as goal

pub new-requires : goal.new-requires
new-requires c =
    sizes-IsJob _ _ _ _ _ c.loop-scan.scan-index c.plan-plan.ensures.same c.plan-plan.ensures.ranges c.requires
    c.items-scan-items.ensures (omega arith) c.loop-scan.invariant c.deref.ensures.value
