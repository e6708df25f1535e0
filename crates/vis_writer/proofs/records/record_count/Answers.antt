use Rattle.std.proofs.Common.{refl, sym, ap, ◌∙◌, length}
use Rattle.std.proofs.lemmas.List.{length-map}
use Rattle.vis_records.specs.Heads.{scan_of}
use Rattle.vis_writer.proofs.FileText.{scan-at, scan-is, baselines-few, count-more, count-all}
use Rattle.vis_writer.proofs.records.record_count.Goals as goal

pub scan_count-count-requires-clause-few : goal.scan_count-count-requires-clause-few
scan_count-count-requires-clause-few c =
    baselines-few c.index-scans-number.result (length c.args.head.now.stations)
    (scan-is c.args.head.now c.scans-scans.result.now c.loop-number.number c.index-scans-number.result c.scans-scans.ensures.head
    c.scans-scans.ensures.scans c.loop-number-test.true c.index-scans-number.is)

pub scan_count-count-requires-clause-samples : goal.scan_count-count-requires-clause-samples
scan_count-count-requires-clause-samples c =
    (scan-is c.args.head.now c.scans-scans.result.now c.loop-number.number c.index-scans-number.result c.scans-scans.ensures.head
    c.scans-scans.ensures.scans c.loop-number-test.true c.index-scans-number.is).samples

pub loop-number-preserved : goal.loop-number-preserved
loop-number-preserved c =
    count-more c.args.head.now c.loop-number.number c.loop-number.count c.scan_count-count.result _ (scan_of c.index-scans-number.result)
    (scan-at c.args.head.now c.scans-scans.result.now c.loop-number.number c.index-scans-number.result c.scans-scans.ensures.scans c.loop-number-test.true c.index-scans-number.is)
    c.loop-number.invariant c.scan_count-count.ensures refl

pub returns : goal.returns
returns c =
    count-all c.args.head.now c.loop-number.number (length c.scans-scans.result.now) c.loop-number.count c.loop-number.auto.number-end c.loop-number-test.false
    (sym (length-map c.scans-scans.result.now scan_of) ∙ ap length c.scans-scans.ensures.scans) c.loop-number.invariant
