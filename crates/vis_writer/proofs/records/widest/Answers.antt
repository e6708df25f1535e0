use Rattle.std.proofs.Common.{length}
use Rattle.vis_writer.proofs.FileText.{scan-is, baselines-few}
use Rattle.vis_writer.proofs.records.widest.Goals as goal

pub width_of-requires : goal.width_of-requires
width_of-requires c =
    baselines-few c.scan-item.result (length c.args.head.now.stations)
    (scan-is c.args.head.now c.scans-scans.result.now c.loop-scan.scan-index c.scan-item.result c.scans-scans.ensures.head
    c.scans-scans.ensures.scans c.loop-scan-test.true c.scan-item.is)
