use Rattle.std.proofs.Common.{◌+◌, ◌*◌, ◌^◌, pos, refl, length, arith}
use Rattle.byte_streams.specs.Values.{re_of, im_of}
use Rattle.byte_streams.specs.Streams.{value_in}
use Rattle.byte_streams.specs.Rows.{number_in, level_value}
use Rattle.block_lags.proofs.Bounds.{within-more, within-once}
use Rattle.block_lags.proofs.Products.{same-length, added-two}
use Rattle.block_lags.proofs.Levels.{level-biased, to_level-re, to_level-im}
use Rattle.block_lags.proofs.still.add_to_level.Goals as goal

pub add_products-requires-2-clause-within : goal.add_products-requires-2-clause-within
add_products-requires-2-clause-within c = within-once c.args.cells.now c.add_products.new.cells c.add_products.ensures.within c.requires.within

pub returns-clause-products : goal.returns-clause-products
returns-clause-products c = λ i lt.
    let s = c.args.first.now in
    let b = c.args.b.now in
    let d = b.direction in
    let v = value_in s in
    let w = level_value b in
    let n = length s.there.now in
    let level = level-biased b.level (length b.level.bytes.now) in
    let one = c.add_products.ensures.added (λ k. re_of (v k)) (number_in b.level) c.reals.ensures.numbers level i lt in
    let two = c.add_products-2.ensures.added (λ k. im_of (v k)) (number_in b.level) c.imaginaries.ensures.numbers level i (omega (arith, lt, c.add_products.ensures.len)) in
    added-two v w i n _ _ _ _ _ _ _ _ _ (same-length _ _ _ i _ n _ _ c.reals.ensures.len one) (same-length _ _ _ i _ n _ _ c.imaginaries.ensures.len two)
    (λ k _. to_level-re (pos 0) (pos 0) d.re d.im (pos 0) (number_in b.level (i + k)) (v k) (w (i + k)) _ _ c.conjugate.ensures.re c.exchanged.ensures.re refl refl)
    (λ k _. to_level-im (pos 0) (pos 0) d.re d.im (pos 0) (number_in b.level (i + k)) (v k) (w (i + k)) _ _ c.conjugate.ensures.im c.exchanged.ensures.im refl refl)

pub returns-clause-within : goal.returns-clause-within
returns-clause-within c = λ most h.
    within-more (most + 2 ^ 34 + 2 ^ 34) (most + 3 * 2 ^ 34) c.add_products-2.new.cells (omega arith)
    (c.add_products-2.ensures.within (most + 2 ^ 34) (c.add_products.ensures.within most h))
