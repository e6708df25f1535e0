-- Cells of a block.
use Rattle.std.proofs.Common.{◌≡◌, ℕ, zero, suc, ◌+◌, ◌<◌, refl, ap₂, ◌∙◌, arith}
use Rattle.corr_model.specs.declared.cell.Cell.{Cell}
use Rattle.std.proofs.lemmas.Int.{ints}
use Rattle.corr_model.specs.Cell.{cell_plus, no_cell, sum_from}
use Rattle.block_lags.specs.Cells.{IsGrown, HasProducts}
use Rattle.block_lags.specs.Counts.{IsCounted}

-- a sum that begins elsewhere
pub sum_from-moved : (f g : ℕ → Cell) (at from : ℕ) (n : ℕ) → ((k : ℕ) → k < n → f (at + k) ≡ g (from + k)) → sum_from f at n ≡ sum_from g from n
sum_from-moved f g at from zero each = refl
sum_from-moved f g at from (suc n) each = ap₂ cell_plus (sum_from-moved f g at from n (λ k lt. each k (omega arith))) (each n (omega arith))

-- the products of pairs, and their number
pub IsGrown-both : (more : Cell) (old mid new : Cell) → HasProducts more old mid → IsCounted more.count mid new → IsGrown more old new
IsGrown-both more old mid new products counted =
    record {
      re = counted.re ∙ products.re;
      im = counted.im ∙ products.im;
      count = omega (arith, counted.count, products.count);
    }

-- a cell to which nothing is added
pub IsGrown-none : (old : Cell) → IsGrown no_cell old old
IsGrown-none old = record {
  re = omega (arith, ints);
  im = omega (arith, ints);
  count = omega arith;
}

none-plus : (c d : Cell) → c ≡ no_cell → d ≡ no_cell → cell_plus c d ≡ no_cell
none-plus c d e f = ap₂ cell_plus e f

-- what nothing adds up to
pub sum_from-none : (f : ℕ → Cell) (from n : ℕ) → ((k : ℕ) → k < n → f (from + k) ≡ no_cell) → sum_from f from n ≡ no_cell
sum_from-none f from zero each = refl
sum_from-none f from (suc n) each = none-plus (sum_from f from n) (f (from + n)) (sum_from-none f from n (λ k lt. each k (omega arith))) (each n (omega arith))
