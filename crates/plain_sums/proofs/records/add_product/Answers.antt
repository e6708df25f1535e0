use Rattle.std.proofs.Common.{refl, arith}
use Rattle.job_epochs.specs.Sums.{lag_cells}
use Rattle.plain_sums.proofs.AddLemmas.{none-added, row-added, length-record}
use Rattle.plain_sums.proofs.records.add_product.Goals as goal

pub loop-i-init : goal.loop-i-init
loop-i-init g c = none-added c.args.cells.now

pub loop-i-preserved : goal.loop-i-preserved
loop-i-preserved g c =
    row-added (lag_cells c.args.plan.now (g.V.Values.samples c.args.v.now) c.args.scan.now c.args.from c.args.to c.args.product.now)
    c.args.scan.now.baselines c.items-baseline-items.result.now c.args.plan.now.lags c.loop-i.i _ _ (record { a = 0; b = 0 })
    c.args.cells.now c.loop-i.cells c.add_record.new.cells
    c.items-baseline-items.ensures c.loop-i-test.true
    (length-record c.args.plan.now (g.V.Values.samples c.args.v.now) c.args.scan.now c.args.from c.args.to c.args.product.now)
    c.requires.room refl (omega arith) c.add_record.ensures c.loop-i.invariant
