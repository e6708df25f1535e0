use Rattle.sink_text.proofs.WrittenText.{Puts-then}
use Rattle.vis_records.proofs.RecordLines.{scan_lines-pieces}
use Rattle.vis_records.proofs.lines.put_scan.Goals as goal

pub returns : goal.returns
returns g c =
    Puts-then (scan_lines-pieces c.args.number c.args.scan.now _ _ c.bytes.ensures c.items.ensures) c.put_pieces.ensures
    c.put_baselines.ensures
