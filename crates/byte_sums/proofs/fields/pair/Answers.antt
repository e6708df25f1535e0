use Rattle.std.proofs.Common.{ℕ, ◌+◌, ◌*◌, ◌<◌, ◌≤◌, get_or, arith}
use Rattle.std.proofs.lemmas.Simd.{Each1-from_get_or, Each1-get_or}
use Rattle.byte_sums.proofs.Joined.{byte-within}
use Rattle.byte_sums.proofs.fields.pair.Goals as goal

pub returns-clause-small : goal.returns-clause-small
returns-clause-small c =
    let b = c.bytes_from.result in
    let a = c.numbers_from.result in
    let most : (j : ℕ) → j < 32 → get_or b j 0 * get_or a j 0 ≤ 765 = λ j lt.
    byte-within (get_or b j 0) (get_or a j 0) (Each1-get_or (λ x. x < 256) b j 0 (omega (arith, c.bytes_from.ensures.len, lt)) c.bytes_from.ensures.bytes)
    (omega (arith, c.numbers_from.ensures.lanes j lt, c.requires.a (c.args.from + j))) in
    Each1-from_get_or (λ n. n ≤ 1530) c.pairs.result 0 (λ k lt.
    omega (arith, c.pairs.ensures.lanes k (omega (arith, lt, c.pairs.ensures.len)), most (2 * k) (omega (arith, lt, c.pairs.ensures.len)), most (2 * k + 1) (omega (arith, lt, c.pairs.ensures.len))))
