-- The lines of a text and their fields: which bytes they have.
use Rattle.std.proofs.Common.{◌≡◌, ℕ, zero, suc, ◌<◌, ◌≤◌, Bool, true, false, cond, ◌&&◌, nat_lt, List, [], ◌∷◌, length, get_or, refl, arith}
use Rattle.std.specs.List.{All, list_all, slice_split, onto_first}
use Rattle.std.specs.Str.{IsUtf8, IsAscii}
use Rattle.std.proofs.lemmas.Str.{IsUtf8-from_ascii}
use Rattle.std.proofs.lemmas.List.Elements.{All-nil, All-cons, All-head, All-tail, All-filter, All-weaker, All-get_or}
use Rattle.std.proofs.lemmas.Bool.Decides.{nat_tests}
use Rattle.std.proofs.lemmas.List.{get_or_past}
use Rattle.job_lines.specs.Rows.{uncommented, is_allowed, is_clean, is_blank, fields_of}
use Rattle.job_text.specs.Values.{field}
pub use Rattle.job_lines.proofs.LineLemmas.{length-lines}

abbrev are_allowed : List ℕ → Bool
are_allowed xs = list_all is_allowed xs

pub both_left : (a b : Bool) → (a && b) ≡ true → a ≡ true
both_left true b h = refl
both_left false b h = absurd cc

pub both_right : (a b : Bool) → (a && b) ≡ true → b ≡ true
both_right true b h = h
both_right false b h = absurd cc

onto-allowed : (x : ℕ) (parts : List (List ℕ)) → is_allowed x ≡ true → All (λ part. are_allowed part ≡ true) parts → All (λ part. are_allowed part ≡ true) (onto_first x parts)
onto-allowed x [] one each = All-cons (λ part. are_allowed part ≡ true) (x ∷ []) [] (λ i. one i && true) (All-nil (λ part. are_allowed part ≡ true))
onto-allowed x (p ∷ parts) one each =
    All-cons (λ part. are_allowed part ≡ true) (x ∷ p) parts (λ i. one i && All-head (λ part. are_allowed part ≡ true) p parts each i) (All-tail (λ part. are_allowed part ≡ true) p parts each)

-- the parts of a text have its bytes
parts-allowed : (xs : List ℕ) → are_allowed xs ≡ true → All (λ part. are_allowed part ≡ true) (slice_split is_blank xs)
parts-allowed [] h = All-cons (λ part. are_allowed part ≡ true) [] [] refl (All-nil (λ part. are_allowed part ≡ true))
parts-allowed (x ∷ xs) h = by (is_blank x) (parts-allowed xs (both_right (is_allowed x) (are_allowed xs) h))
  where
    by : (b : Bool) → All (λ part. are_allowed part ≡ true) (slice_split is_blank xs) → All (λ part. are_allowed part ≡ true) (cond b ([] ∷ slice_split is_blank xs) (onto_first x (slice_split is_blank xs)))
    by true each = All-cons (λ part. are_allowed part ≡ true) [] (slice_split is_blank xs) refl each
    by false each = onto-allowed x (slice_split is_blank xs) (both_left (is_allowed x) (are_allowed xs) h) each

allowed-small : (b : ℕ) → is_allowed b ≡ true → b < 128
allowed-small b h = grind (arith, nat_tests, h)

allowed-ascii : (xs : List ℕ) → are_allowed xs ≡ true → IsAscii xs
allowed-ascii [] h = λ i. omega arith
allowed-ascii (x ∷ xs) h = at (allowed-ascii xs (both_right (is_allowed x) (are_allowed xs) h))
  where
    at : IsAscii xs → (i : ℕ) → get_or (x ∷ xs) i 0 < 128
    at rest zero = allowed-small x (both_left (is_allowed x) (are_allowed xs) h)
    at rest (suc i) = rest i

-- the fields of a clean line are texts
pub fields-texts : (line : List ℕ) → is_clean line ≡ true → All IsUtf8 (fields_of line)
fields-texts line h =
    All-filter (λ part. nat_lt 0 (length part)) IsUtf8 (slice_split is_blank (uncommented line))
    (All-weaker (λ part. are_allowed part ≡ true) IsUtf8 (λ part ok. IsUtf8-from_ascii part (allowed-ascii part ok)) (slice_split is_blank (uncommented line)) (parts-allowed (uncommented line) h))

-- so is one that is not there
pub field-text : (fields : List (List ℕ)) (i : ℕ) → All IsUtf8 fields → IsUtf8 (field fields i)
field-text fields i each = by (nat_lt i (length fields)) refl
  where
    by : (b : Bool) → nat_lt i (length fields) ≡ b → IsUtf8 (field fields i)
    by true e = let inside : i < length fields = grind (arith, nat_tests, e) in All-get_or IsUtf8 fields i [] inside each
    by false e =
        let out : length fields ≤ i = grind (arith, nat_tests, e) in
        rw (get_or_past fields i [] out) (IsUtf8-from_ascii [] (λ k. omega arith))
