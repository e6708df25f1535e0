use Rattle.std.proofs.Common.{ap, ◌∙◌}
use Rattle.std.specs.Int.{div_ceil}
use Rattle.corr_model.specs.Records.{product_places}
use Rattle.vis_records.specs.Heads.{scan_of}
use Rattle.vis_records.proofs.RecordLines.{PutsRecords-none, PutsRecords-turn, PutsRecords-turns}
use Rattle.vis_records.proofs.record_lines.put_scan.Goals as goal

pub loop-m-init : goal.loop-m-init
loop-m-init g c = PutsRecords-none _ _ _ _ _

pub loop-m-preserved : goal.loop-m-preserved
loop-m-preserved g c =
    PutsRecords-turn (product_places c.args.head.now c.args.number (scan_of c.args.scan.now)) c.div_ceil-count.result c.loop-m.m
    c.loop-m-test.true c.loop-m.invariant c.put_integration-left.ensures

pub returns : goal.returns
returns g c =
    PutsRecords-turns (product_places c.args.head.now c.args.number (scan_of c.args.scan.now)) c.div_ceil-count.result _ c.loop-m.m
    (c.div_ceil-count.ensures ∙ ap (div_ceil c.args.scan.now.samples) c.integration.ensures) c.loop-m-test.false c.loop-m.invariant
