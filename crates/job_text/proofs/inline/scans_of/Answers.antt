use Rattle.std.proofs.Common.{◌<◌, length, arith}
use Rattle.job_text.specs.Inline.{scan_of}
use Rattle.job_text.proofs.InlineLemmas.{map-more}
use Rattle.job_text.proofs.inline.scans_of.Goals as goal

pub loop-i-preserved : goal.loop-i-preserved
loop-i-preserved c =
    let less : c.loop-i.i < length c.args.spans.now = omega arith in
    map-more (scan_of c.args.rate c.args.chans.now c.args.stations.now) c.args.spans.now c.loop-i.i (c.at.result.0.now, c.at.result.1.now) c.loop-i.scans.items c.push.new.self.items c.in_ok-scan.scan
    less c.at.ensures.entry c.loop-i.invariant c.in_ok-scan.ensures c.in_ok-push.ensures.items
