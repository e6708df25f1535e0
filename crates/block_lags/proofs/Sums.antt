-- Sums of numbers, and parts of sums of cells.
use Rattle.std.proofs.Common.{◌≡◌, ℕ, zero, suc, ◌+◌, ◌<◌, ℤ, pos, ◌+ℤ◌, ◌*ℤ◌, refl, sym, ap, ◌∙◌, arith, zero-add}
use Rattle.std.proofs.Math.IntN.{*ℤ-zero}
use Rattle.std.proofs.lemmas.Int.{ints}
use Rattle.corr_model.specs.declared.cell.Cell.{Cell}
use Rattle.corr_model.specs.Cell.{no_cell, cell_plus, sum_from}
use Rattle.byte_sums.specs.Sums.{nat_sum}
use Rattle.byte_lags.specs.Streams.{int_sum}
use Rattle.byte_lags.proofs.IntProducts.{int_mul-add}

pub int_sum-plus : (f g : ℕ → ℤ) (n : ℕ) → int_sum f n +ℤ int_sum g n ≡ int_sum (λ k. f k +ℤ g k) n
unfolding int_sum
int_sum-plus f g zero = refl
int_sum-plus f g (suc n) = omega (arith, ints, int_sum-plus f g n)

pub int_sum-times : (w : ℤ) (f : ℕ → ℤ) (n : ℕ) → w *ℤ int_sum f n ≡ int_sum (λ k. w *ℤ f k) n
unfolding int_sum
int_sum-times w f zero = *ℤ-zero w
int_sum-times w f (suc n) = int_mul-add w (int_sum f n) (f n) ∙ ap (λ (s : ℤ). s +ℤ w *ℤ f n) (int_sum-times w f n)

-- a part of a cell that adds up: its terms give that of the sum
sum-part : (part : Cell → ℤ) → part no_cell ≡ pos 0 → ((c d : Cell) → part (cell_plus c d) ≡ part c +ℤ part d)
    → (h : ℕ → Cell) (t : ℕ → ℤ) (n : ℕ) → ((k : ℕ) → k < n → t k ≡ part (h k)) → int_sum t n ≡ part (sum_from h 0 n)
unfolding int_sum
sum-part part none plus h t zero each = sym none
sum-part part none plus h t (suc n) each =
    let place : part (h (0 + n)) ≡ part (h n) = ap (λ k. part (h k)) (zero-add n) in
    omega (arith, ints, sum-part part none plus h t n (λ k lt. each k (omega arith)), each n (omega arith), place, plus (sum_from h 0 n) (h (0 + n)))

pub sum-re : (h : ℕ → Cell) (t : ℕ → ℤ) (n : ℕ) → ((k : ℕ) → k < n → t k ≡ (h k).re) → int_sum t n ≡ (sum_from h 0 n).re
sum-re = sum-part (λ c. c.re) refl (λ c d. refl)

pub sum-im : (h : ℕ → Cell) (t : ℕ → ℤ) (n : ℕ) → ((k : ℕ) → k < n → t k ≡ (h k).im) → int_sum t n ≡ (sum_from h 0 n).im
sum-im = sum-part (λ c. c.im) refl (λ c d. refl)

pub sum-count : (h : ℕ → Cell) (t : ℕ → ℕ) (n : ℕ) → ((k : ℕ) → k < n → t k ≡ (h k).count) → nat_sum t n ≡ (sum_from h 0 n).count
unfolding nat_sum
sum-count h t zero each = refl
sum-count h t (suc n) each =
    let place : (h (0 + n)).count ≡ (h n).count = ap (λ k. (h k).count) (zero-add n) in
    omega (arith, sum-count h t n (λ k lt. each k (omega arith)), each n (omega arith), place)
