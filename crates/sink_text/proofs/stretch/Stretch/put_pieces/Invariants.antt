use Rattle.std.proofs.Common.{take}
use Rattle.sink_text.specs.Pieces.{pieces_text}
use Rattle.sink_text.specs.Written.{Puts}
use Rattle.sink_text.proofs.stretch.Stretch.put_pieces.Given as goal

abbrev pub invariant-loop-piece : goal.invariant-loop-piece
invariant-loop-piece g l =
    Puts (pieces_text (take l.piece-index l.pieces)) l.initial.self l.self
    (g.S.Sink.told l.initial.out) (g.S.Sink.told l.out)
    (g.S.Sink.faults l.initial.out) (g.S.Sink.faults l.out)
