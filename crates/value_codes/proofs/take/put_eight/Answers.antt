use Rattle.std.proofs.Common.{◌≡◌, ◌*◌, length, arith}
use Rattle.value_codes.proofs.VectorLemmas.{put-halves}
use Rattle.value_codes.proofs.take.put_eight.Goals as goal

pub returns : goal.returns
returns c i h =
    let a = c.args in
    let front : length c.put_four.new.codes ≡ 4 * 16 = omega (arith, c.put_four.auto.codes, c.split_at_mut-front.ensures.front_len, c.requires.codes) in
    let behind : length c.put_four-2.new.codes ≡ 4 * 16 = omega (arith, c.put_four-2.auto.codes, c.split_at_mut-front.ensures.back_len, c.requires.codes) in
    put-halves a.table a.bytes c.halves.result.0 c.halves.result.1 c.put_four.new.codes c.put_four-2.new.codes 4 1 (omega arith) front
    c.halves.ensures.first c.halves.ensures.second
    (λ k below. c.put_four.ensures k (omega (arith, below, front, c.put_four.auto.codes)))
    (λ k below. c.put_four-2.ensures k (omega (arith, below, behind, c.put_four-2.auto.codes)))
    i (omega (arith, h, c.requires.codes))
