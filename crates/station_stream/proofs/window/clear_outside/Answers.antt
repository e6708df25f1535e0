use Rattle.std.proofs.Common.{◌∙◌, arith}
use Rattle.station_stream.proofs.FillLemmas.{IsBlank-cleared}
use Rattle.station_stream.proofs.window.clear_outside.Goals as goal

pub returns : goal.returns
returns c =
    let part = c.args.part.now in
    let w = c.args.window in
    IsBlank-cleared part w c.place-at.result c.place-to.result c.args.codes.now c.clear.new.codes c.clear-2.new.codes
    c.requires.long (c.place-at.ensures ∙ c.clip.ensures) (c.place-to.ensures ∙ c.clip-2.ensures) part.sound.order
    (c.clear-2.auto.codes ∙ c.clear.auto.codes)
    (λ k h. c.clear.ensures.cleared k (omega arith) h)
    (λ k h inside. c.clear-2.ensures.cleared k h (omega (arith, inside, c.clear-2.auto.codes)))
    c.clear-2.ensures.before
