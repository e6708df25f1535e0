use Rattle.sink_text.specs.Pieces.{piece_text}
use Rattle.sink_text.proofs.WrittenText.{Puts-next, Puts-all}
use Rattle.sink_text.proofs.stretch.Stretch.put_pieces.Goals as goal

pub loop-piece-preserved : goal.loop-piece-preserved
loop-piece-preserved g c =
    Puts-next piece_text c.args.pieces.now c.loop-piece.piece-index _ c.loop-piece-test.true c.loop-piece.invariant
    c.put_piece.ensures

pub returns : goal.returns
returns g c = Puts-all piece_text c.args.pieces.now c.loop-piece.piece-index c.loop-piece-test.false c.loop-piece.invariant
