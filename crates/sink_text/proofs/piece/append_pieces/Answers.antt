use Rattle.sink_text.proofs.WrittenText.{Appends-written}
use Rattle.sink_text.proofs.piece.append_pieces.Goals as goal

pub returns : goal.returns
returns g c = Appends-written c.new-stretch.ensures c.put_pieces.ensures c.finish.ensures
