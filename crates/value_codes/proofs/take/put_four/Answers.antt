use Rattle.std.proofs.Common.{◌≡◌, ◌*◌, length, arith}
use Rattle.value_codes.proofs.FieldLemmas.{field-below}
use Rattle.value_codes.proofs.VectorLemmas.{put-halves}
use Rattle.value_codes.proofs.take.put_four.Goals as goal

pub put_two-requires-clause-below : goal.put_two-requires-clause-below
put_two-requires-clause-below c i h = field-below (2 * c.args.width) _ _ c.requires.width (c.halves.ensures.first i h)

pub put_two-requires-2-clause-below : goal.put_two-requires-2-clause-below
put_two-requires-2-clause-below c i h = field-below (2 * c.args.width) _ _ c.requires.width (c.halves.ensures.second i h)

pub returns : goal.returns
returns c i h =
    let a = c.args in
    let front : length c.put_two.new.codes ≡ 2 * 16 = omega (arith, c.put_two.auto.codes, c.split_at_mut-front.ensures.front_len, c.requires.codes) in
    let behind : length c.put_two-2.new.codes ≡ 2 * 16 = omega (arith, c.put_two-2.auto.codes, c.split_at_mut-front.ensures.back_len, c.requires.codes) in
    put-halves a.table a.fields c.halves.result.0 c.halves.result.1 c.put_two.new.codes c.put_two-2.new.codes 2 a.width (omega arith) front
    c.halves.ensures.first c.halves.ensures.second
    (λ k below. c.put_two.ensures k (omega (arith, below, front, c.put_two.auto.codes)))
    (λ k below. c.put_two-2.ensures k (omega (arith, below, behind, c.put_two-2.auto.codes)))
    i (omega (arith, h, c.requires.codes))
