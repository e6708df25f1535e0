use Rattle.sink_text.proofs.WrittenText.{Puts-then, Appends-written}
use Rattle.vis_records.proofs.RecordLines.{dump_text-pieces}
use Rattle.vis_records.proofs.lines.dump.Goals as goal

pub returns : goal.returns
returns g c =
    let text = dump_text-pieces c.args.vis.now c.head-head.result.now c.cells.result.now c.head-head.ensures.head c.cells.ensures.cells in
    Appends-written c.new-lines.ensures (Puts-then text c.put_head.ensures c.put_records.ensures) c.end.ensures
