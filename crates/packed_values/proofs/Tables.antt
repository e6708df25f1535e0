-- The components of all codes, by computing.
use Rattle.std.specs.Prelude.{if◌then◌else◌}
use Rattle.std.proofs.Common.{◌≡◌, T, ℕ, ◌+◌, ◌*◌, ◌/◌, ◌%◌, ◌<◌, ◌≤◌, ◌⊎◌, Bool, true, false, not, ◌||◌, ◌&&◌, eqb, ltb, List, [], length, get_or, ℤ, pos, ◌+ℤ◌, ◌-ℤ◌, ◌*ℤ◌, Some, None, refl, sym, subst, ap, ◌∙◌, arith, inl, inr, bit_xor}
use Rattle.std.specs.Ordering.{int_eq}
use Rattle.std.specs.Cmp.{signed_Decides}
use Rattle.std.proofs.lemmas.Bool.{agree_below, agree_below_at, and_from, and_parts, cases_lt, eqb-true, eq-eqb, ltb-true, ne_eqb, or_cases}
use Rattle.std.proofs.lemmas.Int.{ints}
use Rattle.std.proofs.lemmas.List.{get_or_past}
use Rattle.std.proofs.lemmas.List.Sums.{AllPass-from_list_all}
use Rattle.corr_model.specs.Cell.{Value}
use Rattle.value_codes.specs.Codes.{value_of}
use Rattle.byte_streams.specs.Values.{re_of, im_of, component, byte_value}
use Rattle.packed_values.specs.Tables.{biased_of, there_of, is_sign, are_signs, IsNarrow, IsBiasOf, IsAlong, weights_along}
use Rattle.packed_values.proofs.Lanes.{is_lane, place_of}
use Rattle.packed_values.specs.declared.codes.TheConstants.{LEVELS, REAL, IMAGINARY, ALONG}

pub all_below : (f : ℕ → Bool) → agree_below f (λ _. true) 256 ≡ true → (c : ℕ) → c < 256 → f c ≡ true
all_below f all c lt = agree_below_at f (λ _. true) 256 c all lt

lane-turned : (half sign : ℕ) → half < 16 → is_sign sign ≡ true → is_lane (bit_xor half sign) ≡ true
lane-turned half sign lt is =
    let by : (t : ℕ) → sign ≡ t → agree_below (λ h. is_lane (bit_xor h t)) (λ _. true) 16 ≡ true → is_lane (bit_xor half sign) ≡ true =
    λ t e all. subst (λ u. is_lane (bit_xor half u) ≡ true) (sym e) (agree_below_at (λ h. is_lane (bit_xor h t)) (λ _. true) 16 half all lt) in
    elim (or_cases (eqb sign 0) (eqb sign 12 || eqb sign 128) is) [
      | inl zero ↦ by 0 (eqb-true sign 0 zero) refl
      | inr other ↦
          elim (or_cases (eqb sign 12) (eqb sign 128) other) [
            | inl opposite ↦ by 12 (eqb-true sign 12 opposite) refl
            | inr away ↦ by 128 (eqb-true sign 128 away) refl
          ]
    ]

sign-at : (signs : List ℕ) → are_signs signs ≡ true → (k : ℕ) → is_sign (get_or signs k 0) ≡ true
sign-at signs are k =
    elim (cases_lt k (length signs)) [
      | inl l ↦ AllPass-from_list_all is_sign signs are k 0 l
      | inr past ↦ subst (λ s. is_sign s ≡ true) (sym (get_or_past signs k 0 (omega arith))) refl
    ]

-- the places of codes in the levels
pub places-hold : (signs : List ℕ) → are_signs signs ≡ true → (c : ℕ) → c < 256 → is_lane (place_of signs c) ≡ true
places-hold signs are c lt = lane-turned (c / 16) (get_or signs (c % 16) 0) (omega arith) (sign-at signs are (c % 16))

pub implied : (a b : Bool) → (not a || b) ≡ true → a ≡ true → b ≡ true
implied true b h e = h
implied false true h e = refl
implied false false h e = e

narrow_below : (f : ℕ → Bool) → agree_below (λ c. not (eqb (c / 16 % 4) 0) || f c) (λ _. true) 256 ≡ true → (c : ℕ) → c < 256 → IsNarrow c → f c ≡ true
narrow_below f all c lt narrow =
    implied (eqb (c / 16 % 4) 0) (f c) (all_below (λ x. not (eqb (x / 16 % 4) 0) || f x) all c lt) (eq-eqb (c / 16 % 4) 0 narrow)

-- the bias of a code: 15, or 3 where its level is one of two bits
abbrev pub IsBias : ℕ → ℕ → Type 0
IsBias bias c = (bias ≡ 15) ⊎ ((bias ≡ 3) × IsNarrow c)

pub bias-low : (bias : ℕ) (codes : List ℕ) → IsBiasOf bias codes → bias ≤ 15
bias-low bias codes is = elim is [ inl wide ↦ omega (arith, wide) | inr narrow ↦ omega (arith, narrow.0) ]

pub bias-at : (bias : ℕ) (codes : List ℕ) → IsBiasOf bias codes → (k : ℕ) → k < length codes → IsBias bias (get_or codes k 0)
bias-at bias codes is k lt = elim is [ inl wide ↦ inl wide | inr narrow ↦ inr (narrow.0, narrow.1 k lt) ]

abbrev real : ℕ → ℕ → ℕ
real bias c = biased_of LEVELS REAL bias c

abbrev imaginary : ℕ → ℕ → ℕ
imaginary bias c = biased_of LEVELS IMAGINARY bias c

same_number : (x y : ℤ) → int_eq x y ≡ true → x ≡ y
same_number x y = (signed_Decides x y).0

pub real-is : (bias c : ℕ) → c < 256 → IsBias bias c → pos (real bias c) ≡ re_of (value_of c) +ℤ pos bias
real-is bias c lt is =
    elim is [
      | inl wide ↦
          subst (λ b. pos (real b c) ≡ re_of (value_of c) +ℤ pos b) (sym wide)
          (same_number _ _ (all_below (λ x. int_eq (pos (real 15 x)) (re_of (value_of x) +ℤ pos 15)) refl c lt))
      | inr narrow ↦
          subst (λ b. pos (real b c) ≡ re_of (value_of c) +ℤ pos b) (sym narrow.0)
          (same_number _ _ (narrow_below (λ x. int_eq (pos (real 3 x)) (re_of (value_of x) +ℤ pos 3)) refl c lt narrow.1))
    ]

pub imaginary-is : (bias c : ℕ) → c < 256 → IsBias bias c → pos (imaginary bias c) ≡ im_of (value_of c) +ℤ pos bias
imaginary-is bias c lt is =
    elim is [
      | inl wide ↦
          subst (λ b. pos (imaginary b c) ≡ im_of (value_of c) +ℤ pos b) (sym wide)
          (same_number _ _ (all_below (λ x. int_eq (pos (imaginary 15 x)) (im_of (value_of x) +ℤ pos 15)) refl c lt))
      | inr narrow ↦
          subst (λ b. pos (imaginary b c) ≡ im_of (value_of c) +ℤ pos b) (sym narrow.0)
          (same_number _ _ (narrow_below (λ x. int_eq (pos (imaginary 3 x)) (im_of (value_of x) +ℤ pos 3)) refl c lt narrow.1))
    ]

pub real-most : (bias c : ℕ) → c < 256 → IsBias bias c → real bias c ≤ 2 * bias
real-most bias c lt is =
    elim is [
      | inl wide ↦ subst (λ b. real b c ≤ 2 * b) (sym wide) (omega (arith, ltb-true _ _ (all_below (λ x. ltb (real 15 x) 31) refl c lt)))
      | inr narrow ↦ subst (λ b. real b c ≤ 2 * b) (sym narrow.0) (omega (arith, ltb-true _ _ (narrow_below (λ x. ltb (real 3 x) 7) refl c lt narrow.1)))
    ]

pub imaginary-most : (bias c : ℕ) → c < 256 → IsBias bias c → imaginary bias c ≤ 2 * bias
imaginary-most bias c lt is =
    elim is [
      | inl wide ↦ subst (λ b. imaginary b c ≤ 2 * b) (sym wide) (omega (arith, ltb-true _ _ (all_below (λ x. ltb (imaginary 15 x) 31) refl c lt)))
      | inr narrow ↦ subst (λ b. imaginary b c ≤ 2 * b) (sym narrow.0) (omega (arith, ltb-true _ _ (narrow_below (λ x. ltb (imaginary 3 x) 7) refl c lt narrow.1)))
    ]

same_value : (x y u v : ℤ) → x ≡ u → y ≡ v → ◌≡◌ {A = Value} (Some (x, y)) (Some (u, v))
same_value x y u v e f = cc

-- the value of bytes with its components
value_by : (b : Bool) (bias re im : ℕ) (x y : ℤ)
    → pos re ≡ re_of (if b then None else Some (x, y)) +ℤ pos bias
    → pos im ≡ im_of (if b then None else Some (x, y)) +ℤ pos bias
    → if◌then◌else◌ {A = Value} b None (Some (pos re -ℤ pos bias, pos im -ℤ pos bias)) ≡ if◌then◌else◌ {A = Value} b None (Some (x, y))
value_by true bias re im x y e f = refl
value_by false bias re im x y e f = same_value _ _ _ _ (omega (arith, ints, e)) (omega (arith, ints, f))

pub code-value : (bias c : ℕ) → c < 256 → IsBias bias c → byte_value bias (real bias c) (imaginary bias c) (there_of c) ≡ value_of c
code-value bias c lt is = value_by (eqb (there_of c) 0) bias (real bias c) (imaginary bias c) _ _ (real-is bias c lt is) (imaginary-is bias c lt is)

none_by : (b : Bool) (v : ℤ × ℤ) → b ≡ true → ◌≡◌ {A = Value} (if b then None else Some v) None
none_by true v e = refl
none_by false v e = absurd (subst T (sym e) tt)

-- where there is no value
none_is : (c : ℕ) → there_of c ≡ 0 → value_of c ≡ None
none_is c e = none_by (eqb (there_of c) 0) _ (eq-eqb (there_of c) 0 e)

pub real-none : (bias c : ℕ) → c < 256 → IsBias bias c → there_of c ≡ 0 → real bias c ≡ bias
real-none bias c lt is e = omega (arith, ints, real-is bias c lt is ∙ ap (λ (v : Value). re_of v +ℤ pos bias) (none_is c e))

pub imaginary-none : (bias c : ℕ) → c < 256 → IsBias bias c → there_of c ≡ 0 → imaginary bias c ≡ bias
imaginary-none bias c lt is e = omega (arith, ints, imaginary-is bias c lt is ∙ ap (λ (v : Value). im_of v +ℤ pos bias) (none_is c e))

-- levels along directions

abbrev level : ℕ → ℕ → ℕ → ℕ
level bias d c = biased_of LEVELS (get_or ALONG d []) bias c

is_along : ℕ → ℕ → Bool
is_along d c = eqb (there_of c) 1 && eqb (c % 4) d

is_real : ℕ → ℕ → ℕ → Bool
is_real bias d c = int_eq ((weights_along d).re *ℤ component bias (level bias d c)) (re_of (value_of c))

is_imaginary : ℕ → ℕ → ℕ → Bool
is_imaginary bias d c = int_eq ((weights_along d).im *ℤ component bias (level bias d c)) (im_of (value_of c))

is_level : ℕ → ℕ → ℕ → Bool
is_level bias d c = ltb (level bias d c) (2 * bias + 1) && (is_real bias d c && is_imaginary bias d c)

each_direction : (f : ℕ → ℕ → Bool) → agree_below (λ d. agree_below (f d) (λ _. true) 256) (λ _. true) 4 ≡ true
    → (d c : ℕ) → d < 4 → c < 256 → f d c ≡ true
each_direction f all d c d_lt c_lt = all_below (f d) (agree_below_at (λ e. agree_below (f e) (λ _. true) 256) (λ _. true) 4 d all d_lt) c c_lt

level-all : (bias d c : ℕ) → d < 4 → c < 256 → IsBias bias c → IsAlong d c → is_level bias d c ≡ true
unfolding is_along is_level is_real is_imaginary
level-all bias d c d_lt c_lt is along =
    let here : is_along d c ≡ true = and_from _ _ (eq-eqb (there_of c) 1 along.0) (eq-eqb (c % 4) d along.1) in
    elim is [
      | inl wide ↦
          subst (λ b. is_level b d c ≡ true) (sym wide)
          (implied (is_along d c) (is_level 15 d c) (each_direction (λ e x. not (is_along e x) || is_level 15 e x) refl d c d_lt c_lt) here)
      | inr narrow ↦
          subst (λ b. is_level b d c ≡ true) (sym narrow.0)
          (implied (is_along d c) (is_level 3 d c)
          (implied (eqb (c / 16 % 4) 0) (not (is_along d c) || is_level 3 d c)
          (each_direction (λ e x. not (eqb (x / 16 % 4) 0) || (not (is_along e x) || is_level 3 e x)) refl d c d_lt c_lt) (eq-eqb (c / 16 % 4) 0 narrow.1))
          here)
    ]

some_by : (b : Bool) (v : ℤ × ℤ) (x y : ℤ) → b ≡ false
    → x ≡ re_of (if◌then◌else◌ {A = Value} b None (Some v)) → y ≡ im_of (if◌then◌else◌ {A = Value} b None (Some v))
    → ◌≡◌ {A = Value} (Some (x, y)) (if b then None else Some v)
some_by true v x y h e f = absurd (subst T h tt)
some_by false v x y h e f = same_value _ _ _ _ e f

module _ (bias d c : ℕ) (d_lt : d < 4) (c_lt : c < 256) (is : IsBias bias c) (along : IsAlong d c) where
  pub level-most : biased_of LEVELS (get_or ALONG d []) bias c ≤ 2 * bias
  unfolding is_level
  level-most =
      let parts = and_parts (ltb (level bias d c) (2 * bias + 1)) (is_real bias d c && is_imaginary bias d c) (level-all bias d c d_lt c_lt is along) in
      let below : level bias d c < 2 * bias + 1 = ltb-true (level bias d c) (2 * bias + 1) parts.0 in
      omega (arith, below)

  pub level-value : ◌≡◌ {A = Value}
      (Some (
        (weights_along d).re *ℤ component bias (biased_of LEVELS (get_or ALONG d []) bias c),
        (weights_along d).im *ℤ component bias (biased_of LEVELS (get_or ALONG d []) bias c),
      ))
      (value_of c)
  unfolding is_level is_real is_imaginary
  level-value =
      let parts = and_parts (ltb (level bias d c) (2 * bias + 1)) (is_real bias d c && is_imaginary bias d c) (level-all bias d c d_lt c_lt is along) in
      let values = and_parts (is_real bias d c) (is_imaginary bias d c) parts.1 in
      let some : there_of c ≡ 1 = along.0 in
      some_by (eqb (there_of c) 0) _ _ _ (ne_eqb (there_of c) 0 (λ e. omega (arith, e, some))) (same_number _ _ values.0) (same_number _ _ values.1)
