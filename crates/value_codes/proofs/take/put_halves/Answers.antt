use Rattle.std.proofs.Common.{◌≡◌, length, get_or, ap, ◌∙◌, arith}
use Rattle.value_codes.proofs.FieldLemmas.{field-below}
use Rattle.value_codes.proofs.VectorLemmas.{put-both}
use Rattle.value_codes.proofs.take.put_halves.Goals as goal

pub put_one-requires-clause-below : goal.put_one-requires-clause-below
put_one-requires-clause-below c i h = field-below 4 _ _ (omega arith) (c.halves.ensures.first i h)

pub put_one-requires-2-clause-below : goal.put_one-requires-2-clause-below
put_one-requires-2-clause-below c i h = field-below 4 _ _ (omega arith) (c.halves.ensures.second i h)

pub returns : goal.returns
returns c i h =
    let a = c.args in
    let front : length c.put_one.new.codes ≡ 16 = omega (arith, c.put_one.auto.codes, c.split_at_mut-front.ensures.front_len, c.requires.codes) in
    let behind : length c.put_one-2.new.codes ≡ 16 = omega (arith, c.put_one-2.auto.codes, c.split_at_mut-front.ensures.back_len, c.requires.codes) in
    put-both a.table a.bytes c.put_one.new.codes c.put_one-2.new.codes 2 4 16 front
    (λ k below. c.put_one.ensures k (omega (arith, below, front, c.put_one.auto.codes)) ∙ ap (λ x. get_or a.table x 0) (c.halves.ensures.first k below))
    (λ k below. c.put_one-2.ensures k (omega (arith, below, behind, c.put_one-2.auto.codes)) ∙ ap (λ x. get_or a.table x 0) (c.halves.ensures.second k below))
    i (omega (arith, h, c.requires.codes))
