use Rattle.std.proofs.Common.{ℕ, sym}
use Rattle.std.specs.List.{enumerate_from}
use Rattle.corr_model.specs.Records.{HeadScan, scan_places}
use Rattle.corr_model.proofs.RecordLemmas.{places_of-scans}
use Rattle.vis_records.specs.Heads.{scan_of}
use Rattle.vis_records.proofs.RecordReading.{within-scans, past-scans, scan-at, short-scan}
use Rattle.vis_records.proofs.RecordLines.{PutsRecords-none, PutsRecords-as, PutsRecords-next, PutsRecords-all}
use Rattle.vis_records.proofs.record_lines.put_records.Goals as goal

pub loop-i-init : goal.loop-i-init
loop-i-init g c = PutsRecords-none _ _ _ _ _

pub put_scan-left-requires-clause-few : goal.put_scan-left-requires-clause-few
put_scan-left-requires-clause-few g c =
    short-scan c.args.head.now c.scans-scans.result.now c.loop-i.i c.index-scans-i.result c.scans-scans.ensures.head
    c.scans-scans.ensures.scans c.loop-i-test.true c.index-scans-i.is

pub loop-i-preserved : goal.loop-i-preserved
loop-i-preserved g c =
    PutsRecords-next (λ (s : ℕ × HeadScan). scan_places c.args.head.now s.0 s.1) (enumerate_from 0 c.args.head.now.scans) c.loop-i.i
    (c.loop-i.i, scan_of c.index-scans-i.result)
    (within-scans c.args.head.now c.scans-scans.result.now c.loop-i.i c.scans-scans.ensures.scans c.loop-i-test.true)
    (scan-at c.args.head.now c.scans-scans.result.now c.loop-i.i c.index-scans-i.result c.scans-scans.ensures.scans c.loop-i-test.true
    c.index-scans-i.is)
    c.loop-i.invariant
    c.put_scan-left.ensures

pub returns : goal.returns
returns g c =
    let all =
    PutsRecords-all (λ (s : ℕ × HeadScan). scan_places c.args.head.now s.0 s.1) (enumerate_from 0 c.args.head.now.scans) c.loop-i.i
    (past-scans c.args.head.now c.scans-scans.result.now c.loop-i.i c.scans-scans.ensures.scans c.loop-i-test.false) c.loop-i.invariant in
    (PutsRecords-as (sym (places_of-scans c.args.head.now)) all).puts
