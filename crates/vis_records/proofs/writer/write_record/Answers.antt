use Rattle.sink_text.proofs.WrittenText.{Puts-then, Appends-written}
use Rattle.corr_model.proofs.RecordLemmas.{record_text-front}
use Rattle.vis_records.proofs.writer.write_record.Goals as goal

pub returns : goal.returns
returns g c =
    let text = record_text-front c.args.at.now c.args.cells.now in
    Appends-written c.new-stretch.ensures (Puts-then text c.put_place.ensures c.put_cells.ensures) c.end.ensures
