-- The products of values of one direction, by those of their levels.
use Rattle.std.proofs.Common.{◌≡◌, ℕ, ℤ, neg_ℤ, ◌+ℤ◌, ◌-ℤ◌, ◌*ℤ◌, sym, ap, ap₂, ◌∙◌, arith}
use Rattle.std.proofs.lemmas.Int.{ints}
use Rattle.corr_model.specs.Cell.{Value, product_of}
use Rattle.byte_lags.proofs.IntProducts.{int_add-mul}
use Rattle.byte_lags.specs.Streams.{IsBiased}
use Rattle.byte_lags.specs.declared.product.Stream.{Stream}
use Rattle.byte_streams.specs.Values.{re_of, im_of}
use Rattle.byte_streams.specs.Rows.{number_in}
use Rattle.block_lags.proofs.Products.{product-re, product-im}
use Rattle.block_lags.proofs.IntFactors.{int_sub-mul, int_neg-mul, int_mul_assoc, int_mul_left_comm, int_mul-mul}

-- a stream holds its own numbers
pub level-biased : (s : Stream) (n : ℕ) → IsBiased s.bias (number_in s) n s.bytes.now
level-biased s n i lt = omega (arith, ints)

module _ (a b c d l m : ℤ) (v w : Value) where
  -- both have one direction
  pub levels-re : (p : ℤ) → p ≡ a *ℤ c +ℤ b *ℤ d → re_of v ≡ a *ℤ l → im_of v ≡ b *ℤ l → re_of w ≡ c *ℤ m → im_of w ≡ d *ℤ m
      → p *ℤ (l *ℤ m) ≡ (product_of v w).re
  levels-re p e f g h k =
      ap (λ (x : ℤ). x *ℤ (l *ℤ m)) e ∙ int_add-mul (a *ℤ c) (b *ℤ d) (l *ℤ m)
      ∙ sym (product-re v w ∙ ap₂ (λ (x y : ℤ). x +ℤ y)
      (ap₂ (λ (x y : ℤ). x *ℤ y) f h ∙ int_mul-mul a l c m) (ap₂ (λ (x y : ℤ). x *ℤ y) g k ∙ int_mul-mul b l d m))

  pub levels-im : (p : ℤ) → p ≡ b *ℤ c -ℤ a *ℤ d → re_of v ≡ a *ℤ l → im_of v ≡ b *ℤ l → re_of w ≡ c *ℤ m → im_of w ≡ d *ℤ m
      → p *ℤ (l *ℤ m) ≡ (product_of v w).im
  levels-im p e f g h k =
      ap (λ (x : ℤ). x *ℤ (l *ℤ m)) e ∙ int_sub-mul (b *ℤ c) (a *ℤ d) (l *ℤ m)
      ∙ sym (product-im v w ∙ ap₂ (λ (x y : ℤ). x -ℤ y)
      (ap₂ (λ (x y : ℤ). x *ℤ y) g h ∙ int_mul-mul b l c m) (ap₂ (λ (x y : ℤ). x *ℤ y) f k ∙ int_mul-mul a l d m))

  -- the first has one direction
  pub with_level-re : (o : ℤ) → o ≡ b → re_of v ≡ a *ℤ l → im_of v ≡ b *ℤ l → a *ℤ (l *ℤ re_of w) +ℤ o *ℤ (l *ℤ im_of w) ≡ (product_of v w).re
  with_level-re o e f g =
      let first : re_of v *ℤ re_of w ≡ a *ℤ (l *ℤ re_of w) = ap (λ (x : ℤ). x *ℤ re_of w) f ∙ int_mul_assoc a l (re_of w) in
      let second : im_of v *ℤ im_of w ≡ b *ℤ (l *ℤ im_of w) = ap (λ (x : ℤ). x *ℤ im_of w) g ∙ int_mul_assoc b l (im_of w) in
      let weight : o *ℤ (l *ℤ im_of w) ≡ b *ℤ (l *ℤ im_of w) = ap (λ (x : ℤ). x *ℤ (l *ℤ im_of w)) e in
      omega (arith, ints, product-re v w, first, second, weight)

  pub with_level-im : (o : ℤ) → o ≡ neg_ℤ a → re_of v ≡ a *ℤ l → im_of v ≡ b *ℤ l → b *ℤ (l *ℤ re_of w) +ℤ o *ℤ (l *ℤ im_of w) ≡ (product_of v w).im
  with_level-im o e f g =
      let first : im_of v *ℤ re_of w ≡ b *ℤ (l *ℤ re_of w) = ap (λ (x : ℤ). x *ℤ re_of w) g ∙ int_mul_assoc b l (re_of w) in
      let second : re_of v *ℤ im_of w ≡ a *ℤ (l *ℤ im_of w) = ap (λ (x : ℤ). x *ℤ im_of w) f ∙ int_mul_assoc a l (im_of w) in
      let weight : o *ℤ (l *ℤ im_of w) ≡ neg_ℤ (a *ℤ (l *ℤ im_of w)) = ap (λ (x : ℤ). x *ℤ (l *ℤ im_of w)) e ∙ int_neg-mul a (l *ℤ im_of w) in
      omega (arith, ints, product-im v w, first, second, weight)

  -- the second has one direction
  pub to_level-re : (o p : ℤ) → o ≡ c → p ≡ d → re_of w ≡ c *ℤ m → im_of w ≡ d *ℤ m → o *ℤ (re_of v *ℤ m) +ℤ p *ℤ (im_of v *ℤ m) ≡ (product_of v w).re
  to_level-re o p e f h k =
      let first : re_of v *ℤ re_of w ≡ c *ℤ (re_of v *ℤ m) = ap (λ (x : ℤ). re_of v *ℤ x) h ∙ int_mul_left_comm (re_of v) c m in
      let second : im_of v *ℤ im_of w ≡ d *ℤ (im_of v *ℤ m) = ap (λ (x : ℤ). im_of v *ℤ x) k ∙ int_mul_left_comm (im_of v) d m in
      let weight : o *ℤ (re_of v *ℤ m) ≡ c *ℤ (re_of v *ℤ m) = ap (λ (x : ℤ). x *ℤ (re_of v *ℤ m)) e in
      let other : p *ℤ (im_of v *ℤ m) ≡ d *ℤ (im_of v *ℤ m) = ap (λ (x : ℤ). x *ℤ (im_of v *ℤ m)) f in
      omega (arith, ints, product-re v w, first, second, weight, other)

  pub to_level-im : (o p : ℤ) → o ≡ neg_ℤ d → p ≡ c → re_of w ≡ c *ℤ m → im_of w ≡ d *ℤ m → o *ℤ (re_of v *ℤ m) +ℤ p *ℤ (im_of v *ℤ m) ≡ (product_of v w).im
  to_level-im o p e f h k =
      let first : im_of v *ℤ re_of w ≡ c *ℤ (im_of v *ℤ m) = ap (λ (x : ℤ). im_of v *ℤ x) h ∙ int_mul_left_comm (im_of v) c m in
      let second : re_of v *ℤ im_of w ≡ d *ℤ (re_of v *ℤ m) = ap (λ (x : ℤ). re_of v *ℤ x) k ∙ int_mul_left_comm (re_of v) d m in
      let weight : o *ℤ (re_of v *ℤ m) ≡ neg_ℤ (d *ℤ (re_of v *ℤ m)) = ap (λ (x : ℤ). x *ℤ (re_of v *ℤ m)) e ∙ int_neg-mul d (re_of v *ℤ m) in
      let other : p *ℤ (im_of v *ℤ m) ≡ c *ℤ (im_of v *ℤ m) = ap (λ (x : ℤ). x *ℤ (im_of v *ℤ m)) f in
      omega (arith, ints, product-im v w, first, second, weight, other)
