use Rattle.std.proofs.Common.{◌≡◌, ◌<◌, length, get_or, sym, ap, ◌∙◌, arith, w8}
use Rattle.std.proofs.lemmas.Simd.{swz_l, length-swz_l, put_chunk_whole}
use Rattle.value_codes.proofs.VectorLemmas.{fields-inside, looked_up}
use Rattle.value_codes.proofs.take.put_one.Goals as goal

pub swizzle : goal.swizzle
swizzle c = fields-inside c.args.fields c.requires.long c.requires.below

pub returns : goal.returns
returns c i h =
    let a = c.args in
    let lane : i < 16 = omega (arith, h, c.requires.codes) in
    let long : length (swz_l w8 16 a.table 0 a.fields) ≡ 16 = length-swz_l w8 16 a.table 0 a.fields ∙ c.requires.long in
    ap (λ l. get_or l i 0) (put_chunk_whole a.codes.now (swz_l w8 16 a.table 0 a.fields) (c.requires.codes ∙ sym long))
    ∙ looked_up a.table a.fields i c.requires.long lane (c.requires.below i lane)
