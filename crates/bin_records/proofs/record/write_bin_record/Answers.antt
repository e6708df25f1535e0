use Rattle.sink_text.proofs.WrittenText.{Puts-then, Appends-written}
use Rattle.bin_records.proofs.TextPieces.{bin_record_text-front}
use Rattle.bin_records.proofs.record.write_bin_record.Goals as goal

pub returns : goal.returns
returns g c =
    let text = bin_record_text-front c.args.at.now c.args.bin c.args.cells.now in
    Appends-written c.new-stretch.ensures (Puts-then text c.put_place.ensures c.put_cells.ensures) c.end.ensures
