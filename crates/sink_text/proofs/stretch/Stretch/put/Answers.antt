use Rattle.std.proofs.Common.{refl}
use Rattle.sink_text.proofs.WrittenText.{Puts-then, Puts-held}
use Rattle.sink_text.proofs.stretch.Stretch.put.Goals as goal

pub returns-then-bytes-gt-SIZE : goal.returns-then-bytes-gt-SIZE
returns-then-bytes-gt-SIZE g c = Puts-then refl c.make_room.ensures.puts c.pass_on.ensures

pub returns-else-bytes-gt-SIZE : goal.returns-else-bytes-gt-SIZE
returns-else-bytes-gt-SIZE g c =
    Puts-then refl c.make_room.ensures.puts (Puts-held _ _ _ _ _ c.hold.ensures.held c.hold.ensures.failed)
