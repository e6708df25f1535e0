use Rattle.std.proofs.Common.{◌≡◌, length, rules, arith}
use Rattle.std.proofs.lemmas.Option.{slice_get-get_or}
use Rattle.piece_plan.specs.Epochs.{job_sizes}
use Rattle.piece_plan.proofs.JobLemmas.{AreCounted-none, AreCounted-more, AreCounted-AreEnds, epochs_before-bound}
use Rattle.piece_plan.proofs.job.JobPlan.new.Goals as goal

pub loop-size-init : goal.loop-size-init
loop-size-init c = AreCounted-none _ _ c.new-ends.ensures.items

pub overflow_add-end : goal.overflow_add-end
overflow_add-end c =
    let bound = epochs_before-bound (job_sizes c.args.scans.now c.args.integration c.args.epoch c.args.lags) c.loop-size.size-index c.requires (omega arith) in
    let scan = c.requires.scans c.loop-size.size-index (record { first = 0; samples = 0; products = 0; baselines = 0 }) c.loop-size-test.true in
    omega (arith, bound, scan.samples, c.loop-size.invariant.end_is)

pub loop-size-preserved : goal.loop-size-preserved
loop-size-preserved c =
    AreCounted-more (job_sizes c.args.scans.now c.args.integration c.args.epoch c.args.lags) c.loop-size.ends.items c.push.new.self.items c.loop-size.size-index c.loop-size.end c.epochs_in.result
    _ c.requires c.loop-size.invariant
    (slice_get-get_or c.args.scans.now c.loop-size.size-index (record { first = 0; samples = 0; products = 0; baselines = 0 }) c.loop-size-test.true)
    c.epochs_in.ensures.count c.in_ok-push.ensures.items

pub invariant_of-result : goal.invariant_of-result
invariant_of-result c =
    let same : c.in_ok-to_vec.field-0.items ≡ c.args.scans.now = search rules in
    let all : c.loop-size.size-index ≡ length c.args.scans.now = omega (arith, c.loop-size-test.false) in
    rw same (c.requires, AreCounted-AreEnds _ _ _ _ c.loop-size.invariant all)
