use Rattle.std.proofs.Common.{◌+◌, ◌*◌, ◌^◌, refl, length, arith}
use Rattle.byte_streams.specs.Rows.{number_in, level_value}
use Rattle.block_lags.proofs.Bounds.{within-more}
use Rattle.block_lags.proofs.Products.{added-one}
use Rattle.block_lags.proofs.Levels.{level-biased, levels-re, levels-im}
use Rattle.block_lags.proofs.still.add_levels.Goals as goal

pub returns-clause-products : goal.returns-clause-products
returns-clause-products c = λ i lt.
    let a = c.args.a.now in
    let b = c.args.b.now in
    let v = level_value a in
    let w = level_value b in
    let n = length a.level.bytes.now in
    let one = c.add_products.ensures.added (number_in a.level) (number_in b.level)
    (level-biased a.level (length a.level.bytes.now)) (level-biased b.level (length b.level.bytes.now)) i lt in
    added-one v w i n _ _ _ _ _ one
    (λ k _. levels-re a.direction.re a.direction.im b.direction.re b.direction.im (number_in a.level k) (number_in b.level (i + k)) (v k) (w (i + k)) _ c.both.ensures.re
    refl refl refl refl)
    (λ k _. levels-im a.direction.re a.direction.im b.direction.re b.direction.im (number_in a.level k) (number_in b.level (i + k)) (v k) (w (i + k)) _ c.both.ensures.im
    refl refl refl refl)

pub returns-clause-within : goal.returns-clause-within
returns-clause-within c = λ most h.
    within-more (most + 2 ^ 34) (most + 3 * 2 ^ 34) c.add_products.new.cells (omega arith) (c.add_products.ensures.within most h)
