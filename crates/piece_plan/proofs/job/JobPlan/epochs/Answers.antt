use Rattle.std.proofs.Common.{◌≡◌, length, rules, arith}
use Rattle.piece_plan.proofs.JobLemmas.{no_epochs, last_read, epochs-bound}
use Rattle.piece_plan.proofs.WalkLemmas.{epochs-CoverJob}
use Rattle.piece_plan.proofs.job.JobPlan.epochs.Goals as goal

pub returns-then-scans-eq0-clause-many : goal.returns-then-scans-eq0-clause-many
returns-then-scans-eq0-clause-many c =
    let none : length c.self.inside.ends.items ≡ 0 = search rules in
    rw (← c.self.view_is) (no_epochs _ c.self.inside.ends.items c.self.invariant.1 none)

pub returns-then-scans-eq0-clause-cover : goal.returns-then-scans-eq0-clause-cover
returns-then-scans-eq0-clause-cover c = rw (← c.self.view_is) (epochs-CoverJob _ c.self.invariant.0)

pub returns-else-scans-eq0-clause-many : goal.returns-else-scans-eq0-clause-many
returns-else-scans-eq0-clause-many c =
    let long : c.len-scans.result ≡ length c.self.inside.ends.items = search rules in
    rw (← c.self.view_is) (last_read _ c.self.inside.ends.items c.len-scans.result c.index.result.now c.self.invariant.1 long c.if-scans-eq0.false c.index.ensures)

pub returns-else-scans-eq0-clause-cover : goal.returns-else-scans-eq0-clause-cover
returns-else-scans-eq0-clause-cover c = rw (← c.self.view_is) (epochs-CoverJob _ c.self.invariant.0)

pub returns-else-scans-eq0-clause-bound : goal.returns-else-scans-eq0-clause-bound
returns-else-scans-eq0-clause-bound c =
    let long : c.len-scans.result ≡ length c.self.inside.ends.items = search rules in
    let total = last_read _ c.self.inside.ends.items c.len-scans.result c.index.result.now c.self.invariant.1 long c.if-scans-eq0.false c.index.ensures in
    omega (arith, total, epochs-bound _ c.self.invariant.0)
