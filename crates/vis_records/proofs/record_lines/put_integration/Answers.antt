use Rattle.std.proofs.Common.{length, refl}
use Rattle.corr_model.specs.Records.{baseline_places}
use Rattle.vis_records.specs.Heads.{scan_of}
use Rattle.vis_records.proofs.RecordReading.{product-count}
use Rattle.vis_records.proofs.RecordLines.{PutsRecords-none, PutsRecords-turn, PutsRecords-turns}
use Rattle.vis_records.proofs.record_lines.put_integration.Goals as goal

pub loop-i-init : goal.loop-i-init
loop-i-init g c = PutsRecords-none _ _ _ _ _

pub loop-i-preserved : goal.loop-i-preserved
loop-i-preserved g c =
    PutsRecords-turn (baseline_places c.args.number (scan_of c.args.scan.now) c.args.m) (length c.products-count.result.now) c.loop-i.i
    c.loop-i-test.true c.loop-i.invariant (rw c.lags.ensures at c.put_product-left.ensures)

pub returns : goal.returns
returns g c =
    PutsRecords-turns (baseline_places c.args.number (scan_of c.args.scan.now) c.args.m) (length c.products-count.result.now) _ c.loop-i.i
    (product-count c.args.head.now _ _ refl c.products-count.ensures.products) c.loop-i-test.false c.loop-i.invariant
