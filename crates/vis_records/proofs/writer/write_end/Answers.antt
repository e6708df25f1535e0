use Rattle.std.proofs.Common.{refl}
use Rattle.sink_text.proofs.WrittenText.{Puts-then, Appends-written}
use Rattle.vis_records.proofs.writer.write_end.Goals as goal

pub returns : goal.returns
returns g c = Appends-written c.new-stretch.ensures (Puts-then refl c.put.ensures c.put_u64.ensures) c.end.ensures
