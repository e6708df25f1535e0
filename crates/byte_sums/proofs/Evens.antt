-- Bytes of levels by their bits.
use Rattle.std.proofs.Common.{◌≡◌, ℕ, ◌+◌, ◌%◌, ◌<◌, Bool, true, false, not, ◌||◌, eqb, ltb, refl, sym, ap, ◌∙◌, arith, bit_and, bit_or, below_more}
use Rattle.std.proofs.lemmas.Bool.{agree_below, agree_below_at, eqb-true, eq-eqb, ltb-true}
use Rattle.std.proofs.lemmas.Nat.{and_assoc, and_comm, and_le_r, and_or_self, or_comm}
use Rattle.byte_sums.specs.Fields.{IsLevel}

none_of_both : (a b m : ℕ) → bit_and (bit_or a b) m ≡ 0 → bit_and b m ≡ 0
none_of_both a b m e =
    ap (λ x. bit_and x m) (sym (and_or_self b a) ∙ and_comm (bit_or a b) b) ∙ and_assoc m b (bit_or a b) ∙ ap (bit_and b) e ∙ omega (arith, and_le_r b 0)

pub neither : (a b m : ℕ) → bit_and (bit_or a b) m ≡ 0 → (bit_and a m ≡ 0) × (bit_and b m ≡ 0)
neither a b m e = (none_of_both b a m (ap (λ x. bit_and x m) (or_comm b a) ∙ e), none_of_both a b m e)

implied : (a b : Bool) → (not a || b) ≡ true → a ≡ true → b ≡ true
implied true b h e = h
implied false true h e = refl
implied false false h e = e

all_bytes : (f : ℕ → Bool) → agree_below f (λ _. true) 256 ≡ true → (x : ℕ) → x < 256 → f x ≡ true
all_bytes f all x lt = agree_below_at f (λ _. true) 256 x all lt

-- a byte without the other bits is one of a level
pub level-from_bits : (x : ℕ) → x < 256 → bit_and x 249 ≡ 0 → IsLevel x
level-from_bits x lt e =
    let none : eqb (bit_and x 249) 0 ≡ true = eq-eqb (bit_and x 249) 0 e in
    let is_even : eqb (x % 2) 0 ≡ true = implied (eqb (bit_and x 249) 0) (eqb (x % 2) 0) (all_bytes (λ y. not (eqb (bit_and y 249) 0) || eqb (y % 2) 0) refl x lt) none in
    let is_small : ltb x 7 ≡ true = implied (eqb (bit_and x 249) 0) (ltb x 7) (all_bytes (λ y. not (eqb (bit_and y 249) 0) || ltb y 7) refl x lt) none in
    record { even = eqb-true (x % 2) 0 is_even; small = omega (arith, ltb-true x 7 is_small) }

-- the bytes so far and the next one are levels where the bits of all have no others
pub levels-more : (bits i : ℕ) (f : ℕ → ℕ) → f i < 256 → (bit_and bits 249 ≡ 0 → (k : ℕ) → k < i → IsLevel (f k))
    → bit_and (bit_or bits (f i)) 249 ≡ 0 → (k : ℕ) → k < i + 1 → IsLevel (f k)
levels-more bits i f fits before none =
    let parts = neither bits (f i) 249 none in
    below_more (λ k. IsLevel (f k)) i (before parts.0) (level-from_bits (f i) fits parts.1)

-- the same of two rows
pub pairs-more : (bits i : ℕ) (f g : ℕ → ℕ) → f i < 256 → g i < 256 → (bit_and bits 249 ≡ 0 → (k : ℕ) → k < i → IsLevel (f k) × IsLevel (g k))
    → bit_and (bit_or bits (bit_or (f i) (g i))) 249 ≡ 0 → (k : ℕ) → k < i + 1 → IsLevel (f k) × IsLevel (g k)
pairs-more bits i f g f_fits g_fits before none =
    let parts = neither bits (bit_or (f i) (g i)) 249 none in
    let both = neither (f i) (g i) 249 parts.1 in
    below_more (λ k. IsLevel (f k) × IsLevel (g k)) i (before parts.0) (level-from_bits (f i) f_fits both.0, level-from_bits (g i) g_fits both.1)
