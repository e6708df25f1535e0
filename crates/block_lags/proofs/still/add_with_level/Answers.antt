use Rattle.std.proofs.Common.{◌+◌, ◌*◌, ◌^◌, pos, refl, length, arith}
use Rattle.byte_streams.specs.Values.{re_of, im_of}
use Rattle.byte_streams.specs.Streams.{value_in}
use Rattle.byte_streams.specs.Rows.{number_in, level_value}
use Rattle.block_lags.proofs.Bounds.{within-more, within-once}
use Rattle.block_lags.proofs.Products.{added-two}
use Rattle.block_lags.proofs.Levels.{level-biased, with_level-re, with_level-im}
use Rattle.block_lags.proofs.still.add_with_level.Goals as goal

pub add_products-requires-2-clause-within : goal.add_products-requires-2-clause-within
add_products-requires-2-clause-within c = within-once c.args.cells.now c.add_products.new.cells c.add_products.ensures.within c.requires.within

pub returns-clause-products : goal.returns-clause-products
returns-clause-products c = λ i lt.
    let a = c.args.a.now in
    let d = a.direction in
    let v = level_value a in
    let w = value_in c.args.second.now in
    let n = length a.level.bytes.now in
    let level = level-biased a.level (length a.level.bytes.now) in
    let one = c.add_products.ensures.added (number_in a.level) (λ k. re_of (w k)) level c.reals.ensures.numbers i lt in
    let two = c.add_products-2.ensures.added (number_in a.level) (λ k. im_of (w k)) level c.imaginaries.ensures.numbers i (omega (arith, lt, c.add_products.ensures.len)) in
    added-two v w i n _ _ _ _ _ _ _ _ _ one two
    (λ k _. with_level-re d.re d.im (pos 0) (pos 0) (number_in a.level k) (pos 0) (v k) (w (i + k)) _ c.turned.ensures.re refl refl)
    (λ k _. with_level-im d.re d.im (pos 0) (pos 0) (number_in a.level k) (pos 0) (v k) (w (i + k)) _ c.turned.ensures.im refl refl)

pub returns-clause-within : goal.returns-clause-within
returns-clause-within c = λ most h.
    within-more (most + 2 ^ 34 + 2 ^ 34) (most + 3 * 2 ^ 34) c.add_products-2.new.cells (omega arith)
    (c.add_products-2.ensures.within (most + 2 ^ 34) (c.add_products.ensures.within most h))
