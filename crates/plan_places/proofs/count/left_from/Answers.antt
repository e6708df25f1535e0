use Rattle.std.proofs.Common.{arith}
use Rattle.std.proofs.lemmas.Option.{slice_get-get_or}
use Rattle.piece_plan.specs.Epochs.{epochs_of}
use Rattle.plan_places.proofs.CountedLemmas.{counted-none, counted-more, counted-all, counted-bound}
use Rattle.plan_places.proofs.count.left_from.Goals as goal

pub loop-i-init : goal.loop-i-init
loop-i-init c = counted-none c.args.plan.now c.args.epoch c.args.first c.requires.within c.requires.begin

pub loop-i-preserved : goal.loop-i-preserved
loop-i-preserved c =
    counted-more c.args.plan.now c.args.epoch c.args.first c.loop-i.i c.loop-i.count c.scan_left-next.result.0 c.scan_left-next.result.1 _ c.requires.job c.loop-i.invariant
    (slice_get-get_or (epochs_of c.args.plan.now) c.loop-i.i
    (record { scan = 0; m = 0; from = 0; to = 0; products = 0; baselines = 0; lags = 0 })
    (omega (arith, c.loop-i-test.true, c.epochs.ensures.many)))
    c.scan_left-next.ensures

pub returns-clause-count : goal.returns-clause-count
returns-clause-count c epochs goes =
    counted-all c.args.plan.now c.args.epoch c.args.first c.loop-i.i c.loop-i.count epochs c.loop-i.invariant
    (omega (arith, c.loop-i-test.false, c.epochs.ensures.many)) goes

pub returns-clause-bound : goal.returns-clause-bound
returns-clause-bound c = counted-bound c.args.plan.now c.args.epoch c.args.first c.loop-i.i c.loop-i.count c.requires.job c.loop-i.invariant
