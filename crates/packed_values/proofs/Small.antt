-- The values of a row are small.
use Rattle.std.specs.Prelude.{if◌then◌else◌}
use Rattle.std.proofs.Common.{◌≡◌, ℕ, ◌+◌, ◌*◌, ◌/◌, ◌%◌, ◌<◌, Bool, true, false, eqb, List, length, map, get_or, ℤ, pos, negsuc, unsigned_abs, ltb, None, Some, IfSome, refl, sym, subst, arith, inl, inr}
use Rattle.std.proofs.lemmas.Bool.{cases_lt, ltb-true, agree_below, agree_below_at}
use Rattle.std.proofs.lemmas.Int.{ints}
use Rattle.std.proofs.lemmas.List.{get_or_past, get_or-map, length-map}
use Rattle.corr_model.specs.Cell.{Value, IsSmall, AreSmall}
use Rattle.value_codes.specs.Codes.{value_of, turned_by, half_level}
use Rattle.packed_values.specs.From.{value_from}
use Rattle.packed_values.specs.Packed.{values_of}
use Rattle.packed_values.specs.Words.{IsWord, word_value}
use Rattle.packed_values.specs.declared.row.Packed.{Packed}
use Rattle.packed_values.specs.declared.row.Packed.TheVariants.{Codes, Words}

if_by : (b : Bool) (v : ℤ × ℤ) → (b ≡ false → AreSmall v) → IfSome (if◌then◌else◌ {A = Value} b None (Some v)) AreSmall
if_by true v h = tt
if_by false v h = h refl

word-small : (word : ℕ) → IsWord word → IfSome (word_value word) AreSmall
word-small word are =
    if_by (eqb (word / 1024) 0) _ (λ _. ((omega (arith, ints, are.re), omega (arith, ints, are.re)), (omega (arith, ints, are.im), omega (arith, ints, are.im))))

small_by : (x : ℤ) → unsigned_abs x < 16 → IsSmall x
small_by (pos n) h = (omega (arith, ints, h), omega (arith, ints, h))
small_by (negsuc n) h = (omega (arith, ints, h), omega (arith, ints, h))

-- the levels turned by directions, by computing
abbrev turned_at : ℕ → ℤ × ℤ
turned_at x = turned_by (half_level (x / 8)) (x % 8)

all_below : (f : ℕ → ℕ) → agree_below (λ x. ltb (f x) 16) (λ _. true) 128 ≡ true → (x : ℕ) → x < 128 → f x < 16
all_below f all x lt = ltb-true (f x) 16 (agree_below_at (λ y. ltb (f y) 16) (λ _. true) 128 x all lt)

turned-small : (x : ℕ) → x < 128 → AreSmall (turned_at x)
turned-small x lt = (
  small_by (turned_at x).0 (all_below (λ y. unsigned_abs (turned_at y).0) refl x lt),
  small_by (turned_at x).1 (all_below (λ y. unsigned_abs (turned_at y).1) refl x lt),
)

code-small : (code : ℕ) → IfSome (value_of code) AreSmall
code-small code =
    let x = 8 * (code / 16 % 16) + code % 8 in
    let half : x / 8 ≡ code / 16 % 16 = omega arith in
    let direction : x % 8 ≡ code % 8 = omega arith in
    let small : AreSmall (turned_by (half_level (code / 16 % 16)) (code % 8)) =
    subst (λ h. AreSmall (turned_by (half_level h) (code % 8))) half
    (subst (λ d. AreSmall (turned_by (half_level (x / 8)) d)) direction (turned-small x (omega arith))) in
    if_by (eqb (code / 8 % 2) 0) _ (λ _. small)

-- none outside, and small inside
from-small : (f : ℕ → Value) (words : List ℕ) → ((k : ℕ) → k < length words → IfSome (f (get_or words k 0)) AreSmall) → (n : ℤ)
    → IfSome (value_from (map f words) n) AreSmall
from-small f words each (negsuc k) = tt
from-small f words each (pos k) =
    elim (cases_lt k (length words)) [
      | inl l ↦ subst (λ (v : Value). IfSome v AreSmall) (sym (get_or-map f words k 0 None l)) (each k l)
      | inr past ↦ subst (λ (v : Value). IfSome v AreSmall) (sym (get_or_past (map f words) k None (omega (arith, length-map words f)))) tt
    ]

pub value_from-small : (row : Packed) (n : ℤ) → IfSome (value_from (values_of row) n) AreSmall
value_from-small (Codes codes) n = from-small value_of codes.now (λ k lt. code-small (get_or codes.now k 0)) n
value_from-small (Words row) n = from-small word_value row.words.now (λ k lt. word-small (get_or row.words.now k 0) (row.packed k lt)) n
