use Rattle.std.proofs.Common.{◌≡◌, ◌∙◌, Some, arith, length, sym, ap}
use Rattle.std.specs.List.{slice_get}
use Rattle.std.proofs.lemmas.List.{length-map}
use Rattle.vis_records.specs.Heads.{scan_of}
use Rattle.vis_writer.proofs.FileText.{scan-at, widest-at}
use Rattle.shard_merge.proofs.WriterSizes.{scan-text}
use Rattle.shard_merge.proofs.WriterCalls.{merged-same}
use Rattle.shard_merge.proofs.writer.write_scan.Goals as goal

pub write_integrations-requires-clause-scan : goal.write_integrations-requires-clause-scan
write_integrations-requires-clause-scan g c =
    let many : length c.args.head.now.scans ≡ length c.scans.result.now = sym (ap length c.scans.ensures.scans) ∙ length-map c.scans.result.now scan_of in
    scan-at c.args.head.now c.scans.result.now c.args.number c.index-scans-number.result c.scans.ensures.scans (omega (arith, many, c.requires.inside)) c.index-scans-number.is

pub write_integrations-requires-clause-room : goal.write_integrations-requires-clause-room
write_integrations-requires-clause-room g c =
    let many : length c.args.head.now.scans ≡ length c.scans.result.now = sym (ap length c.scans.ensures.scans) ∙ length-map c.scans.result.now scan_of in
    let there = scan-at c.args.head.now c.scans.result.now c.args.number c.index-scans-number.result c.scans.ensures.scans (omega (arith, many, c.requires.inside)) c.index-scans-number.is in
    let most = widest-at c.args.head.now c.args.number (scan_of c.index-scans-number.result) there in
    omega (arith, most, c.requires.room)

pub returns : goal.returns
returns g c =
    let s = scan_of c.index-scans-number.result in
    let many : length c.args.head.now.scans ≡ length c.scans.result.now = sym (ap length c.scans.ensures.scans) ∙ length-map c.scans.result.now scan_of in
    let there : slice_get c.args.head.now.scans c.args.number ≡ Some s =
    scan-at c.args.head.now c.scans.result.now c.args.number c.index-scans-number.result c.scans.ensures.scans (omega (arith, many, c.requires.inside)) c.index-scans-number.is in
    merged-same _ _ _ _ _ _ _ _ _ _ _ _ _ (scan-text c.args.head.now c.args.number s there) c.write_integrations.ensures
