-- What streams of bytes stand for.
use Rattle.std.specs.Prelude.{if◌then◌else◌}
use Rattle.std.proofs.Common.{◌≡◌, ◌≢◌, ℕ, ◌+◌, ◌*◌, ◌<◌, ◌≤◌, Bool, true, false, eqb, List, length, get_or, set, get_or-set_same, get_or-set_other, below_more, ℤ, pos, ◌+ℤ◌, ◌-ℤ◌, Some, None, refl, ◌∙◌, arith, inl, inr}
use Rattle.std.proofs.lemmas.Bool.{cases_lt, eqb-true}
use Rattle.std.proofs.lemmas.Int.{ints}
use Rattle.std.proofs.lemmas.List.{get_or_past}
use Rattle.corr_model.specs.Cell.{Value}
use Rattle.byte_streams.specs.Values.{re_of, im_of, component, AreStreams, byte_value}

re_by : (b : Bool) (bias re im : ℕ) → (b ≡ true → re ≡ bias) → pos re ≡ re_of (if b then None else Some (component bias re, component bias im)) +ℤ pos bias
re_by true bias re im h = omega (arith, ints, h refl)
re_by false bias re im h = omega (arith, ints)

im_by : (b : Bool) (bias re im : ℕ) → (b ≡ true → im ≡ bias) → pos im ≡ im_of (if b then None else Some (component bias re, component bias im)) +ℤ pos bias
im_by true bias re im h = omega (arith, ints, h refl)
im_by false bias re im h = omega (arith, ints)

module _ (bias : ℕ) (r i t : List ℕ) (are : AreStreams bias r i t) (k : ℕ) (lt : k < length t) where
  pub byte_re : pos (get_or r k 0) ≡ re_of (byte_value bias (get_or r k 0) (get_or i k 0) (get_or t k 0)) +ℤ pos bias
  byte_re = re_by (eqb (get_or t k 0) 0) bias (get_or r k 0) (get_or i k 0) (λ e. (are.none k lt (eqb-true (get_or t k 0) 0 e)).0)

  pub byte_im : pos (get_or i k 0) ≡ im_of (byte_value bias (get_or r k 0) (get_or i k 0) (get_or t k 0)) +ℤ pos bias
  byte_im = im_by (eqb (get_or t k 0) 0) bias (get_or r k 0) (get_or i k 0) (λ e. (are.none k lt (eqb-true (get_or t k 0) 0 e)).1)

-- what a value's bytes are, by its components
pub record AreOf (r i bias : ℕ) (v : Value) : Type 0 where
  pub re : pos r ≡ re_of v +ℤ pos bias
  pub im : pos i ≡ im_of v +ℤ pos bias

pub bytes_of : (bias : ℕ) (r i t : List ℕ) → AreStreams bias r i t → (k : ℕ) → k < length t
    → AreOf (get_or r k 0) (get_or i k 0) bias (byte_value bias (get_or r k 0) (get_or i k 0) (get_or t k 0))
bytes_of bias r i t are k lt = record { re = byte_re bias r i t are k lt; im = byte_im bias r i t are k lt }

-- bytes that are small as far as the list goes
pub all_small : (most : ℕ) (xs : List ℕ) → ((k : ℕ) → k < length xs → get_or xs k 0 ≤ most) → (k : ℕ) → get_or xs k 0 ≤ most
all_small most xs each k =
    elim (cases_lt k (length xs)) [
      | inl l ↦ each k l
      | inr m ↦ omega (arith, get_or_past xs k 0 (omega arith))
    ]

-- one byte more
pub set_more : (xs : List ℕ) (f : ℕ → ℕ) (k v : ℕ) → k < length xs → ((j : ℕ) → j < k → get_or xs j 0 ≡ f j) → v ≡ f k
    → (j : ℕ) → j < k + 1 → get_or (set xs k v) j 0 ≡ f j
set_more xs f k v within below here =
    below_more (λ j. get_or (set xs k v) j 0 ≡ f j) k
    (λ j h. let ne : j ≢ k = omega arith in get_or-set_other xs k j v 0 ne ∙ below j h)
    (get_or-set_same xs k v 0 within ∙ here)

pub sum_number : (s r i bias : ℕ) (v : Value) → s ≡ r + i → AreOf r i bias v → pos s ≡ (re_of v +ℤ im_of v) +ℤ pos (2 * bias)
sum_number s r i bias v e of = omega (arith, ints, e, of.re, of.im)

pub difference_number : (s r i bias : ℕ) (v : Value) → s + i ≡ r + 2 * bias → AreOf r i bias v → pos s ≡ (re_of v -ℤ im_of v) +ℤ pos (2 * bias)
difference_number s r i bias v e of = omega (arith, ints, e, of.re, of.im)
