use Rattle.std.proofs.Common.{◌≡◌, arith}
use Rattle.vis_records.specs.Heads.{scan_of}
use Rattle.vis_writer.specs.Texts.{scan_text_by, text_at}
use Rattle.vis_writer.proofs.FileText.{scan-there, text_at-some, widest-at}
use Rattle.vis_writer.proofs.WritesLemmas.{Writes-same, where_always}
use Rattle.vis_writer.proofs.writer.write_scan_at.Goals as goal

pub write_scan-requires-clause-room : goal.write_scan-requires-clause-room
write_scan-requires-clause-room g c =
    let there = scan-there c.args.head.now c.scans.result.now c.args.number c.index-scans-number.result c.scans.ensures.scans c.requires.inside c.index-scans-number.is in
    let most = widest-at c.args.head.now c.args.number (scan_of c.index-scans-number.result) there in
    omega (arith, most, c.requires.room)

pub returns : goal.returns
returns g c =
    let laws = g.met.C.CellSource.composes in
    let s = scan_of c.index-scans-number.result in
    let k = c.args.number in
    let there = scan-there c.args.head.now c.scans.result.now k c.index-scans-number.result c.scans.ensures.scans c.requires.inside c.index-scans-number.is in
    Writes-same _ _ _ _ laws (λ of. scan_text_by c.args.head.now of k s) (λ of. text_at c.args.head.now of k) _ _ _ _ _ _
    (where_always _ (λ of. scan_text_by c.args.head.now of k s ≡ text_at c.args.head.now of k) (λ of. text_at-some c.args.head.now of k s there))
    c.write_scan.ensures
