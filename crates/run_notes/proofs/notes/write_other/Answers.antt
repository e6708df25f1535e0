use Rattle.std.proofs.Common.{refl, append_assoc, append-nil}
use Rattle.sink_text.proofs.WrittenText.{Puts-then, Appends-written}
use Rattle.run_notes.proofs.notes.write_other.Goals as goal

pub returns : goal.returns
returns g c =
    Appends-written c.new-line.ensures
    (Puts-then (simp (append_assoc, append-nil))
    (Puts-then refl (Puts-then refl (Puts-then refl c.put_pieces.ensures c.put_byte.ensures) c.put.ensures) c.put_byte-2.ensures)
    c.put-2.ensures)
    c.finish.ensures
