use Rattle.std.proofs.Common.{◌+◌, ◌*◌, ◌^◌, ◌+ℤ◌, ◌-ℤ◌, length, arith}
use Rattle.byte_streams.specs.Values.{re_of, im_of}
use Rattle.byte_streams.specs.Streams.{value_in}
use Rattle.block_lags.proofs.Bounds.{within-more, within-once}
use Rattle.block_lags.proofs.Products.{same-length, added-three, turning-re, turning-im}
use Rattle.block_lags.proofs.turning.add_turning.Goals as goal

pub add_products-requires-2-clause-within : goal.add_products-requires-2-clause-within
add_products-requires-2-clause-within c = within-once c.args.cells.now c.add_products.new.cells c.add_products.ensures.within c.requires.within

pub add_products-requires-3-clause-within : goal.add_products-requires-3-clause-within
add_products-requires-3-clause-within c =
    within-more (2 ^ 62 + 2 ^ 60 + 2 ^ 34 + 2 ^ 34) (2 ^ 62 + 2 ^ 61) c.add_products-2.new.cells (omega arith)
    (c.add_products-2.ensures.within (2 ^ 62 + 2 ^ 60 + 2 ^ 34) (c.add_products.ensures.within (2 ^ 62 + 2 ^ 60) c.requires.within))

pub returns-clause-products : goal.returns-clause-products
returns-clause-products c = λ i lt.
    let s = c.args.first.now in
    let t = c.args.second.now in
    let v = value_in s in
    let w = value_in t in
    let n = length s.there.now in
    let one = c.add_products.ensures.added (λ k. re_of (v k)) (λ k. re_of (w k) -ℤ im_of (w k)) c.reals.ensures.numbers c.component_differences.ensures.numbers i lt in
    let two = c.add_products-2.ensures.added (λ k. re_of (v k) -ℤ im_of (v k)) (λ k. re_of (w k)) c.component_differences-2.ensures.numbers c.reals-2.ensures.numbers i
    (omega (arith, lt, c.add_products.ensures.len)) in
    let three = c.add_products-3.ensures.added (λ k. re_of (v k) +ℤ im_of (v k)) (λ k. im_of (w k)) c.component_sums.ensures.numbers c.imaginaries.ensures.numbers i
    (omega (arith, lt, c.add_products.ensures.len, c.add_products-2.ensures.len)) in
    added-three v w i n _ _ _ _ _ _ _ _ _ _ _ _ _
    (same-length _ _ _ i _ n _ _ c.reals.ensures.len one)
    (same-length _ _ _ i _ n _ _ c.component_differences-2.ensures.len two)
    (same-length _ _ _ i _ n _ _ c.component_sums.ensures.len three)
    (λ k _. turning-re (v k) (w (i + k))) (λ k _. turning-im (v k) (w (i + k)))

pub returns-clause-within : goal.returns-clause-within
returns-clause-within c = λ most h.
    within-more (most + 2 ^ 34 + 2 ^ 34 + 2 ^ 34) (most + 3 * 2 ^ 34) c.add_products-3.new.cells (omega arith)
    (c.add_products-3.ensures.within (most + 2 ^ 34 + 2 ^ 34) (c.add_products-2.ensures.within (most + 2 ^ 34) (c.add_products.ensures.within most h)))
