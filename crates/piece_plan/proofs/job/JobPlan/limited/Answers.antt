use Rattle.std.specs.Prelude.{IfOk}
use Rattle.std.proofs.Common.{◌≡◌, ◌∙◌, sym, ap, refl, subst, ◌≤◌, length, arith}
use Rattle.piece_plan.specs.Epochs.{JobSizes, IsJob, job_sizes}
use Rattle.piece_plan.proofs.LimitLemmas.{AreLimited-read, AreLimited-all, limited-is, limited-IsJob}
use Rattle.piece_plan.proofs.job.JobPlan.limited.Goals as goal

pub limited_scan-requires-clause-within : goal.limited_scan-requires-clause-within
limited_scan-requires-clause-within c scans epoch lags =
    omega (arith, c.min.ensures, c.integrations_in-count.ensures.count scans epoch lags)

pub loop-size-preserved : goal.loop-size-preserved
loop-size-preserved c =
    AreLimited-read (job_sizes c.self.inside.scans.items c.self.inside.integration c.self.inside.epoch c.self.inside.lags)
    c.deref-size-items.result.now c.loop-size.scans.items c.push.new.self.items
    c.args.from c.args.to c.loop-size.first c.loop-size.end c.loop-size.size-index c.integrations_in-count.result c.min.result
    c.saturating_sub-first.result c.saturating_sub-end.result
    (record { first = 0; samples = 0; products = 0; baselines = 0 }) c.limited_scan.result
    c.self.invariant.0 c.loop-size.invariant c.deref-size-items.ensures.value c.loop-size-test.true
    (c.integrations_in-count.ensures.count c.self.inside.scans.items c.self.inside.epoch c.self.inside.lags)
    c.min.ensures
    (c.limited_scan.ensures c.self.inside.scans.items c.self.inside.epoch c.self.inside.lags)
    c.in_ok-push.ensures.items c.saturating_sub-first.ensures c.saturating_sub-end.ensures

pub new-requires : goal.new-requires
new-requires c =
    let long : length c.self.inside.scans.items ≤ c.loop-size.size-index =
    omega (arith, c.loop-size-test.false, ap length c.deref-size-items.ensures.value) in
    let all = AreLimited-all (job_sizes c.self.inside.scans.items c.self.inside.integration c.self.inside.epoch c.self.inside.lags)
    c.loop-size.scans.items c.args.from c.args.to c.loop-size.first c.loop-size.end c.loop-size.size-index c.loop-size.invariant long in
    let job = limited-is (job_sizes c.self.inside.scans.items c.self.inside.integration c.self.inside.epoch c.self.inside.lags) _
    c.deref.result.now c.args.from c.args.to (c.deref.ensures.value ∙ all) refl in
    subst IsJob (sym job) (limited-IsJob _ c.args.from c.args.to c.self.invariant.0)

pub returns : goal.returns
returns c =
    let long : length c.self.inside.scans.items ≤ c.loop-size.size-index =
    omega (arith, c.loop-size-test.false, ap length c.deref-size-items.ensures.value) in
    let all = AreLimited-all (job_sizes c.self.inside.scans.items c.self.inside.integration c.self.inside.epoch c.self.inside.lags)
    c.loop-size.scans.items c.args.from c.args.to c.loop-size.first c.loop-size.end c.loop-size.size-index c.loop-size.invariant long in
    let job = limited-is (job_sizes c.self.inside.scans.items c.self.inside.integration c.self.inside.epoch c.self.inside.lags) c.args.self.now
    c.deref.result.now c.args.from c.args.to (c.deref.ensures.value ∙ all) c.self.view_is in
    subst (λ (j : JobSizes). IfOk c.new.result (λ p. p ≡ j)) job c.new.ensures
