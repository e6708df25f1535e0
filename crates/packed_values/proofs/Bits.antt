-- Codes by the bits in which they differ from one.
use Rattle.std.proofs.Common.{◌≡◌, ℕ, zero, suc, ◌+◌, ◌-◌, ◌*◌, ◌/◌, ◌%◌, ◌<◌, ◌≤◌, ◌⊎◌, Bool, not, ◌||◌, ◌&&◌, eqb, List, [], ◌∷◌, length, replicate, get_or, Option, Some, None, IfSome, refl, sym, subst, ap, ◌∙◌, arith, inl, inr, bit_and, bit_or, bit_xor}
use Rattle.std.specs.Simd.Lanes.{zip2, chunk, fold_l}
use Rattle.std.proofs.lemmas.Bool.{and_from, and_parts, cases_lt, eqb-true, eq-eqb}
use Rattle.std.proofs.lemmas.Nat.{and_assoc, and_comm, and_le_r, and_mask, and_or_apart, and_or_self, and_xor_apart, or_comm, xor_mod}
use Rattle.std.proofs.lemmas.List.{get_or_past}
use Rattle.std.proofs.lemmas.Simd.{get_or-chunk, get_or-replicate, get_or-zip2, length-chunk, length-replicate, length-zip2}
use Rattle.packed_values.specs.Tables.{there_of, IsNarrow, IsBiasOf, IsAlong}
use Rattle.packed_values.proofs.Tables.{all_below, implied}

narrow-from_bits : (c : ℕ) → c < 256 → bit_and c 48 ≡ 0 → IsNarrow c
narrow-from_bits c lt e =
    eqb-true (c / 16 % 4) 0
    (implied (eqb (bit_and c 48) 0) (eqb (c / 16 % 4) 0) (all_below (λ x. not (eqb (bit_and x 48) 0) || eqb (x / 16 % 4) 0) refl c lt) (eq-eqb (bit_and c 48) 0 e))

none_of_both : (a b m : ℕ) → bit_and (bit_or a b) m ≡ 0 → bit_and b m ≡ 0
none_of_both a b m e =
    ap (λ x. bit_and x m) (sym (and_or_self b a) ∙ and_comm (bit_or a b) b) ∙ and_assoc m b (bit_or a b) ∙ ap (bit_and b) e ∙ omega (arith, and_le_r b 0)

pub neither : (a b m : ℕ) → bit_and (bit_or a b) m ≡ 0 → (bit_and a m ≡ 0) × (bit_and b m ≡ 0)
neither a b m e = (none_of_both b a m (ap (λ x. bit_and x m) (or_comm b a) ∙ e), none_of_both a b m e)

pub none_of_either : (a b m : ℕ) → bit_and a m ≡ 0 → bit_and b m ≡ 0 → bit_and (bit_or a b) m ≡ 0
none_of_either a b m e f = and_or_apart m a b f ∙ e

each_lane : (m x : ℕ) (xs : List ℕ) → bit_and x m ≡ 0 → ((j : ℕ) → j < length xs → bit_and (get_or xs j 0) m ≡ 0)
    → (j : ℕ) → j < length (x ∷ xs) → bit_and (get_or (x ∷ xs) j 0) m ≡ 0
each_lane m x xs first rest zero lt = first
each_lane m x xs first rest (suc j) lt = rest j (omega (arith, lt))

-- the bits of all lanes
pub none_of_lanes : (xs : List ℕ) (a m : ℕ) → bit_and (fold_l bit_or a xs) m ≡ 0
    → (bit_and a m ≡ 0) × ((j : ℕ) → j < length xs → bit_and (get_or xs j 0) m ≡ 0)
none_of_lanes [] a m e = (e, λ j lt. absurd (omega (arith, lt)))
none_of_lanes (x ∷ xs) a m e =
    let rest = none_of_lanes xs (bit_or a x) m e in
    let both = neither a x m rest.0 in
    (both.0, each_lane m x xs both.1 rest.1)

-- a vector of codes more, whose bits go to the lanes
pub none_gathered : (codes lanes : List ℕ) (at one m : ℕ) → at + 32 ≤ length codes → length lanes ≡ 32
    → (((j : ℕ) → j < 32 → bit_and (get_or lanes j 0) m ≡ 0) → (k : ℕ) → k < at → bit_and (bit_xor (get_or codes k 0) one) m ≡ 0)
    → ((j : ℕ) → j < 32 → bit_and (get_or (zip2 bit_or lanes (zip2 bit_xor (chunk at 32 codes) (replicate 32 one))) j 0) m ≡ 0)
    → (k : ℕ) → k < at + 32 → bit_and (bit_xor (get_or codes k 0) one) m ≡ 0
none_gathered codes lanes at one m room long before none k lt =
    let ones = replicate 32 one in
    let part : length (chunk at 32 codes) ≡ 32 = length-chunk at 32 codes room in
    let differ_long : length (zip2 bit_xor (chunk at 32 codes) ones) ≡ 32 = length-zip2 bit_xor (chunk at 32 codes) ones (part ∙ sym (length-replicate 32 one)) ∙ part in
    let lane = λ (j : ℕ) (l : j < 32).
    let differ : get_or (zip2 bit_xor (chunk at 32 codes) ones) j 0 ≡ bit_xor (get_or codes (at + j) 0) one =
    get_or-zip2 bit_xor (chunk at 32 codes) ones j 0 0 0 (omega (arith, l, part)) (omega (arith, l, length-replicate 32 one))
    ∙ ap (λ x. bit_xor x (get_or ones j 0)) (get_or-chunk at 32 codes j 0 l)
    ∙ ap (bit_xor (get_or codes (at + j) 0)) (get_or-replicate 32 j one 0 l) in
    let both : bit_or (get_or lanes j 0) (bit_xor (get_or codes (at + j) 0) one) ≡ get_or (zip2 bit_or lanes (zip2 bit_xor (chunk at 32 codes) ones)) j 0 =
    sym (get_or-zip2 bit_or lanes (zip2 bit_xor (chunk at 32 codes) ones) j 0 0 0 (omega (arith, l, long)) (omega (arith, l, differ_long)) ∙ ap (bit_or (get_or lanes j 0)) differ) in
    neither (get_or lanes j 0) (bit_xor (get_or codes (at + j) 0) one) m (ap (λ x. bit_and x m) both ∙ none j l) in
    elim (cases_lt k at) [
      | inl l ↦ before (λ j lane_lt. (lane j lane_lt).0) k l
      | inr past ↦
          let place : at + (k - at) ≡ k = omega arith in
          subst (λ i. bit_and (bit_xor (get_or codes i 0) one) m ≡ 0) place (lane (k - at) (omega (arith, lt))).1
    ]

pub length-gathered : (codes lanes : List ℕ) (at one : ℕ) → at + 32 ≤ length codes → length lanes ≡ 32
    → length (zip2 bit_or lanes (zip2 bit_xor (chunk at 32 codes) (replicate 32 one))) ≡ 32
length-gathered codes lanes at one room long =
    let part : length (chunk at 32 codes) ≡ 32 = length-chunk at 32 codes room in
    let differ_long = length-zip2 bit_xor (chunk at 32 codes) (replicate 32 one) (part ∙ sym (length-replicate 32 one)) ∙ part in
    length-zip2 bit_or lanes (zip2 bit_xor (chunk at 32 codes) (replicate 32 one)) (long ∙ sym differ_long) ∙ long

bits-from_narrow : (c : ℕ) → c < 256 → IsNarrow c → bit_and c 48 ≡ 0
bits-from_narrow c lt narrow =
    eqb-true (bit_and c 48) 0
    (implied (eqb (c / 16 % 4) 0) (eqb (bit_and c 48) 0) (all_below (λ x. not (eqb (x / 16 % 4) 0) || eqb (bit_and x 48) 0) refl c lt) (eq-eqb (c / 16 % 4) 0 narrow))

narrow-from_one : (c one : ℕ) → c < 256 → bit_and one 48 ≡ 0 → bit_and (bit_xor c one) 48 ≡ 0 → IsNarrow c
narrow-from_one c one lt e f = narrow-from_bits c lt (sym (and_xor_apart 48 c one e) ∙ f)

-- of two half bytes
alike_halves : ℕ → Bool
alike_halves x = not (eqb (bit_and (bit_xor (x / 16) (x % 16)) 11) 0) || (eqb (x / 16 / 8) (x % 16 / 8) && eqb (x / 16 % 4) (x % 16 % 4))

-- the bits of a code's kind are in its lower half byte
lower_bits : (c one : ℕ) → bit_and (bit_xor (c % 16) (one % 16)) 11 ≡ bit_and (bit_xor c one) 11
lower_bits c one = ap (λ y. bit_and y 11) (sym (xor_mod c one 4) ∙ sym (and_mask (bit_xor c one) 4)) ∙ and_assoc 11 (bit_xor c one) 15

along-from_one : (c one : ℕ) → there_of one ≡ 1 → bit_and (bit_xor c one) 11 ≡ 0 → IsAlong (one % 4) c
unfolding alike_halves
along-from_one c one there e =
    let x = 16 * (c % 16) + one % 16 in
    let high : x / 16 ≡ c % 16 = omega arith in
    let low : x % 16 ≡ one % 16 = omega arith in
    let lower : bit_and (bit_xor (c % 16) (one % 16)) 11 ≡ 0 = lower_bits c one ∙ e in
    let bits : bit_and (bit_xor (x / 16) (x % 16)) 11 ≡ 0 = ap (λ y. bit_and (bit_xor y (x % 16)) 11) high ∙ ap (λ y. bit_and (bit_xor (c % 16) y) 11) low ∙ lower in
    let both =
    and_parts (eqb (x / 16 / 8) (x % 16 / 8)) (eqb (x / 16 % 4) (x % 16 % 4))
    (implied (eqb (bit_and (bit_xor (x / 16) (x % 16)) 11) 0) _ (all_below alike_halves refl x (omega arith)) (eq-eqb _ 0 bits)) in
    let there_is : x / 16 / 8 ≡ x % 16 / 8 = eqb-true (x / 16 / 8) (x % 16 / 8) both.0 in
    let direction_is : x / 16 % 4 ≡ x % 16 % 4 = eqb-true (x / 16 % 4) (x % 16 % 4) both.1 in
    (omega arith, omega arith)

kinds_agree : ℕ → Bool
kinds_agree x = not (eqb (x / 16 / 8) (x % 16 / 8) && eqb (x / 16 % 4) (x % 16 % 4)) || eqb (bit_and (bit_xor (x / 16) (x % 16)) 11) 0

one-from_along : (c one : ℕ) → there_of c ≡ there_of one → c % 4 ≡ one % 4 → bit_and (bit_xor c one) 11 ≡ 0
unfolding kinds_agree
one-from_along c one there direction =
    let x = 16 * (c % 16) + one % 16 in
    let high : x / 16 ≡ c % 16 = omega arith in
    let low : x % 16 ≡ one % 16 = omega arith in
    let same_there : x / 16 / 8 ≡ x % 16 / 8 = omega arith in
    let same_direction : x / 16 % 4 ≡ x % 16 % 4 = omega arith in
    let none : bit_and (bit_xor (x / 16) (x % 16)) 11 ≡ 0 =
    eqb-true _ 0
    (implied (eqb (x / 16 / 8) (x % 16 / 8) && eqb (x / 16 % 4) (x % 16 % 4)) _ (all_below kinds_agree refl x (omega arith))
    (and_from _ _ (eq-eqb _ _ same_there) (eq-eqb _ _ same_direction))) in
    sym (lower_bits c one) ∙ sym (ap (λ y. bit_and (bit_xor y (x % 16)) 11) high ∙ ap (λ y. bit_and (bit_xor (c % 16) y) 11) low) ∙ none

-- codes that differ from one in these bits at most
abbrev IsDiffering : List ℕ → ℕ → ℕ → Type 0
IsDiffering codes one bits = (m : ℕ) → bit_and bits m ≡ 0 → (k : ℕ) → k < length codes → bit_and (bit_xor (get_or codes k 0) one) m ≡ 0

pub bias-from_one : (codes : List ℕ) (one bits bias : ℕ) → ((k : ℕ) → get_or codes k 0 < 256) → IsDiffering codes one bits
    → (bias ≡ 15) ⊎ ((bias ≡ 3) × (bit_and (bit_or bits one) 48 ≡ 0)) → IsBiasOf bias codes
bias-from_one codes one bits bias bytes differ is =
    elim is [
      | inl wide ↦ inl wide
      | inr narrow ↦
          let both = neither bits one 48 narrow.1 in
          inr (narrow.0, λ k lt. narrow-from_one (get_or codes k 0) one (bytes k) both.1 (differ 48 both.0 k lt))
    ]

pub direction-from_one : (codes : List ℕ) (one bits : ℕ) (direction : Option ℕ) → IsDiffering codes one bits
    → IfSome direction (λ d. (d ≡ one % 4) × (there_of one ≡ 1) × (bit_and bits 11 ≡ 0))
    → IfSome direction (λ d. (d < 4) × ((k : ℕ) → k < length codes → IsAlong d (get_or codes k 0)))
direction-from_one codes one bits None differ is = tt
direction-from_one codes one bits (Some d) differ is = (
  omega (arith, is.0),
  λ k lt. subst (λ e. IsAlong e (get_or codes k 0)) (sym is.0) (along-from_one (get_or codes k 0) one is.1 (differ 11 is.2 k lt)),
)

-- what is seen where all codes are narrow or lie along one direction
module _
    (codes : List ℕ) (one bits : ℕ) (bytes : (k : ℕ) → get_or codes k 0 < 256) (first : one ≡ get_or codes 0 0)
    (no_more : (m : ℕ) → ((k : ℕ) → k < length codes → bit_and (bit_xor (get_or codes k 0) one) m ≡ 0) → bit_and bits m ≡ 0) where
  narrow-first : ((k : ℕ) → k < length codes → IsNarrow (get_or codes k 0)) → IsNarrow one
  narrow-first narrow =
      elim (cases_lt 0 (length codes)) [
        | inl some ↦ subst IsNarrow (sym first) (narrow 0 some)
        | inr none ↦ subst IsNarrow (sym (first ∙ get_or_past codes 0 0 (omega (arith, none)))) refl
      ]

  pub bits-all_narrow : ((k : ℕ) → k < length codes → IsNarrow (get_or codes k 0)) → bit_and (bit_or bits one) 48 ≡ 0
  bits-all_narrow narrow =
      let one_bits : bit_and one 48 ≡ 0 = bits-from_narrow one (omega (arith, first, bytes 0)) (narrow-first narrow) in
      none_of_either bits one 48
      (no_more 48 (λ k lt. and_xor_apart 48 (get_or codes k 0) one one_bits ∙ bits-from_narrow (get_or codes k 0) (bytes k) (narrow k lt)))
      one_bits

  pub first-along : (d : ℕ) → 0 < length codes → ((k : ℕ) → k < length codes → IsAlong d (get_or codes k 0)) → IsAlong d one
  first-along d some along = subst (IsAlong d) (sym first) (along 0 some)

  pub bits-all_along : (d : ℕ) → 0 < length codes → ((k : ℕ) → k < length codes → IsAlong d (get_or codes k 0)) → bit_and bits 11 ≡ 0
  bits-all_along d some along =
      let is = first-along d some along in
      no_more 11 (λ k lt. let this = along k lt in one-from_along (get_or codes k 0) one (this.0 ∙ sym is.0) (this.1 ∙ sym is.1))
