use Rattle.std.proofs.Common.{◌∙◌, take, arith}
use Rattle.std.proofs.lemmas.List.{length-take-le}
use Rattle.dev_traits.specs.Files.{bytes_of}
use Rattle.frame_index.proofs.ToldLemmas.{WhereTold-weaker}
use Rattle.frame_index.proofs.PieceLemmas.{IsPieceOf-read}
use Rattle.frame_index.proofs.heads.meet_piece.Goals as goal

pub returns-clause-extends : goal.returns-clause-extends
returns-clause-extends g c = λ utf8.
    WhereTold-weaker (g.F.Shelf.told c.args.shelf.now) _ _
    (λ files read within. c.in_ok-meet_heads.ensures.extends (bytes_of (files c.args.name.now))
    (IsPieceOf-read c.args.shape.now c.args.layout.now c.args.k c.args.n (bytes_of (files c.args.name.now)) (take c.heads_len-len.result c.args.buf.now) c.read_stretch.new.buf
    c.requires.layout c.requires.some
    (length-take-le c.heads_len-len.result c.args.buf.now (omega (arith, c.heads_len-len.ensures.fits, c.requires.long)) ∙ c.heads_len-len.ensures.value)
    c.read_stretch.auto.buf read within))
    (c.in_ok-read_stretch.ensures.stretch utf8)
