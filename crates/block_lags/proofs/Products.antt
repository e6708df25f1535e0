-- The products of two rows of values, by sums of products of their components.
use Rattle.std.proofs.Common.{◌≡◌, ℕ, ◌+◌, ◌*◌, ◌<◌, ℤ, pos, ◌+ℤ◌, ◌-ℤ◌, ◌*ℤ◌, negsuc, Some, None, refl, subst, ◌∙◌, arith}
use Rattle.std.proofs.Math.IntN.{*ℤ-zero, zero-*ℤ}
use Rattle.std.proofs.lemmas.Int.{ints}
use Rattle.corr_model.specs.Cell.{Value, product_of}
use Rattle.corr_model.specs.declared.cell.Cell.{Cell}
use Rattle.byte_lags.specs.declared.product.Weights.{Weights}
use Rattle.byte_lags.specs.Streams.{int_sum, IsAdded}
use Rattle.byte_lags.proofs.IntProducts.{int_add-mul}
use Rattle.block_lags.proofs.IntFactors.{int_mul-sub, int_sub-mul}
use Rattle.byte_streams.specs.Values.{re_of, im_of, there_of}
use Rattle.block_lags.specs.Cells.{pair_at, lag_cell, HasProducts}
use Rattle.block_lags.proofs.Sums.{int_sum-plus, int_sum-times, sum-re, sum-im}

pub product-re : (v w : Value) → (product_of v w).re ≡ re_of v *ℤ re_of w +ℤ im_of v *ℤ im_of w
product-re (Some a) (Some b) = refl
product-re (Some a) None = rw (*ℤ-zero a.0, *ℤ-zero a.1) refl
product-re None w = rw (zero-*ℤ (re_of w), zero-*ℤ (im_of w)) refl

pub product-im : (v w : Value) → (product_of v w).im ≡ im_of v *ℤ re_of w -ℤ re_of v *ℤ im_of w
product-im (Some a) (Some b) = refl
product-im (Some a) None = rw (*ℤ-zero a.0, *ℤ-zero a.1) refl
product-im None w = rw (zero-*ℤ (re_of w), zero-*ℤ (im_of w)) refl

pub product-count : (v w : Value) → (product_of v w).count ≡ there_of v * there_of w
product-count (Some a) (Some b) = refl
product-count (Some a) None = refl
product-count None (Some b) = refl
product-count None None = refl

-- Gauss: a product of complex numbers by three products of real ones
gauss-re : (a b c d : ℤ) → a *ℤ (c -ℤ d) +ℤ (a +ℤ b) *ℤ d ≡ a *ℤ c +ℤ b *ℤ d
gauss-re a b c d = omega (arith, ints, int_mul-sub a c d, int_add-mul a b d)

gauss-im : (a b c d : ℤ) → a *ℤ (c -ℤ d) -ℤ (a -ℤ b) *ℤ c ≡ b *ℤ c -ℤ a *ℤ d
gauss-im a b c d = omega (arith, ints, int_mul-sub a c d, int_sub-mul a b c)

-- the sums of three products, by weights
three-sums : (p q r : ℤ) (f g h : ℕ → ℤ) (n : ℕ) → p *ℤ int_sum f n +ℤ q *ℤ int_sum g n +ℤ r *ℤ int_sum h n ≡ int_sum (λ k. p *ℤ f k +ℤ q *ℤ g k +ℤ r *ℤ h k) n
three-sums p q r f g h n =
    let first = int_sum-plus (λ k. p *ℤ f k) (λ k. q *ℤ g k) n in
    let all = int_sum-plus (λ k. p *ℤ f k +ℤ q *ℤ g k) (λ k. r *ℤ h k) n in
    omega (arith, ints, int_sum-times p f n, int_sum-times q g n, int_sum-times r h n, first, all)

added : (old a b c p q r s : ℤ) → a ≡ old +ℤ p → b ≡ a +ℤ q → c ≡ b +ℤ r → p +ℤ q +ℤ r ≡ s → c ≡ old +ℤ s
added old a b c p q r s d e f g = omega (arith, ints)

-- a sum over as many numbers
pub same-length : (f : Weights) (x y : ℕ → ℤ) (lag m n : ℕ) (old new : Cell) → m ≡ n → IsAdded f x y lag m old new → IsAdded f x y lag n old new
same-length f x y lag m n old new e h = subst (λ (k : ℕ). IsAdded f x y lag k old new) e h

-- what three products add to a cell, where their terms are the pairs'
pub added-three : (v w : ℕ → Value) (lag n : ℕ) (f g h : Weights) (x y z t u s : ℕ → ℤ) (old a b c : Cell)
    → IsAdded f x y lag n old a → IsAdded g z t lag n a b → IsAdded h u s lag n b c
    → ((k : ℕ) → k < n → f.re *ℤ (x k *ℤ y (lag + k)) +ℤ g.re *ℤ (z k *ℤ t (lag + k)) +ℤ h.re *ℤ (u k *ℤ s (lag + k)) ≡ (pair_at v w lag k).re)
    → ((k : ℕ) → k < n → f.im *ℤ (x k *ℤ y (lag + k)) +ℤ g.im *ℤ (z k *ℤ t (lag + k)) +ℤ h.im *ℤ (u k *ℤ s (lag + k)) ≡ (pair_at v w lag k).im)
    → HasProducts (lag_cell v w lag n) old c
unfolding lag_cell
added-three v w lag n f g h x y z t u s old a b c one two three re im =
    record {
      re = added old.re a.re b.re c.re _ _ _ _ one.re two.re three.re
          (three-sums f.re g.re h.re _ _ _ n ∙ sum-re (pair_at v w lag) _ n re);
      im = added old.im a.im b.im c.im _ _ _ _ one.im two.im three.im
          (three-sums f.im g.im h.im _ _ _ n ∙ sum-im (pair_at v w lag) _ n im);
      count = three.count ∙ two.count ∙ one.count;
    }

-- the same of two products, and of one
no_weights : Weights
no_weights = record { re = pos 0; im = pos 0 }

added-none : (x y : ℕ → ℤ) (lag n : ℕ) (cell : Cell) → IsAdded no_weights x y lag n cell cell
unfolding no_weights
added-none x y lag n cell = record {
  re = omega (arith, ints);
  im = omega (arith, ints);
  count = refl;
}

and_none : (p q s r : ℤ) → p +ℤ q ≡ s → p +ℤ q +ℤ pos 0 *ℤ r ≡ s
and_none p q s r e = omega (arith, ints, e)

pub added-two : (v w : ℕ → Value) (lag n : ℕ) (f g : Weights) (x y z t : ℕ → ℤ) (old a b : Cell)
    → IsAdded f x y lag n old a → IsAdded g z t lag n a b
    → ((k : ℕ) → k < n → f.re *ℤ (x k *ℤ y (lag + k)) +ℤ g.re *ℤ (z k *ℤ t (lag + k)) ≡ (pair_at v w lag k).re)
    → ((k : ℕ) → k < n → f.im *ℤ (x k *ℤ y (lag + k)) +ℤ g.im *ℤ (z k *ℤ t (lag + k)) ≡ (pair_at v w lag k).im)
    → HasProducts (lag_cell v w lag n) old b
unfolding no_weights
added-two v w lag n f g x y z t old a b one two re im =
    added-three v w lag n f g no_weights x y z t x y old a b b one two (added-none x y lag n b)
    (λ k lt. and_none (f.re *ℤ (x k *ℤ y (lag + k))) (g.re *ℤ (z k *ℤ t (lag + k))) (pair_at v w lag k).re (x k *ℤ y (lag + k)) (re k lt))
    (λ k lt. and_none (f.im *ℤ (x k *ℤ y (lag + k))) (g.im *ℤ (z k *ℤ t (lag + k))) (pair_at v w lag k).im (x k *ℤ y (lag + k)) (im k lt))

just_one : (p s r : ℤ) → p ≡ s → p +ℤ pos 0 *ℤ r ≡ s
just_one p s r e = omega (arith, ints, e)

pub added-one : (v w : ℕ → Value) (lag n : ℕ) (f : Weights) (x y : ℕ → ℤ) (old a : Cell)
    → IsAdded f x y lag n old a
    → ((k : ℕ) → k < n → f.re *ℤ (x k *ℤ y (lag + k)) ≡ (pair_at v w lag k).re)
    → ((k : ℕ) → k < n → f.im *ℤ (x k *ℤ y (lag + k)) ≡ (pair_at v w lag k).im)
    → HasProducts (lag_cell v w lag n) old a
unfolding no_weights
added-one v w lag n f x y old a one re im =
    added-two v w lag n f no_weights x y x y old a a one (added-none x y lag n a)
    (λ k lt. just_one (f.re *ℤ (x k *ℤ y (lag + k))) (pair_at v w lag k).re (x k *ℤ y (lag + k)) (re k lt))
    (λ k lt. just_one (f.im *ℤ (x k *ℤ y (lag + k))) (pair_at v w lag k).im (x k *ℤ y (lag + k)) (im k lt))

-- the terms of Gauss' three products
pub turning-re : (v w : Value)
    → pos 1 *ℤ (re_of v *ℤ (re_of w -ℤ im_of w)) +ℤ pos 0 *ℤ ((re_of v -ℤ im_of v) *ℤ re_of w) +ℤ pos 1 *ℤ ((re_of v +ℤ im_of v) *ℤ im_of w)
    ≡ (product_of v w).re
turning-re v w = omega (arith, ints, gauss-re (re_of v) (im_of v) (re_of w) (im_of w), product-re v w)

pub turning-im : (v w : Value)
    → pos 1 *ℤ (re_of v *ℤ (re_of w -ℤ im_of w)) +ℤ negsuc 0 *ℤ ((re_of v -ℤ im_of v) *ℤ re_of w) +ℤ pos 0 *ℤ ((re_of v +ℤ im_of v) *ℤ im_of w)
    ≡ (product_of v w).im
turning-im v w = omega (arith, ints, gauss-im (re_of v) (im_of v) (re_of w) (im_of w), product-im v w)
