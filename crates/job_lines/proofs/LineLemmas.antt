-- The lines of a text, the first and those behind it, and how many there are.
use Rattle.std.proofs.Common.{◌≡◌, ◌==◌, ◌+◌, ◌^◌, ◌<◌, ◌≤◌, ℕ, Bool, true, false, cond, List, [], ◌∷◌, length, refl, ap, ◌∙◌, arith, All}
use Rattle.std.specs.List.{position_or_len, before_first, after_first, slice_split, onto_first}
use Rattle.std.specs.Str.Lines.{lines, lines_of_parts, strip_carriage_return}
use Rattle.std.proofs.lemmas.List.Elements.{All-from_get_or}
use Rattle.std.proofs.lemmas.List.Sums.{fails_before_first}
use Rattle.std.proofs.lemmas.List.Splits.{slice_split_none, slice_split_first, length-slice_split}

abbrev is_line_feed : ℕ → Bool
is_line_feed b = b == 10

-- a part before others loses its carriage return
parts-first : (x : List ℕ) (ys : List (List ℕ)) → 0 < length ys → lines_of_parts (x ∷ ys) ≡ strip_carriage_return x ∷ lines_of_parts ys
parts-first x [] h = absurd (omega (arith, h))
parts-first x (y ∷ ys) h = refl

-- a text with a line feed is its first line, and the lines behind it
pub lines-first : (text : List ℕ) → position_or_len is_line_feed text < length text
    → lines text ≡ strip_carriage_return (before_first is_line_feed text) ∷ lines (after_first is_line_feed text)
lines-first text h =
    let some : 0 < length (slice_split is_line_feed (after_first is_line_feed text)) =
    omega (arith, length-slice_split is_line_feed (after_first is_line_feed text)) in
    ap lines_of_parts (slice_split_first is_line_feed text 0 h)
    ∙ parts-first (before_first is_line_feed text) (slice_split is_line_feed (after_first is_line_feed text)) some

-- a part at the end is a line where it has a byte
part-last : (x : List ℕ) → 0 < length x → lines_of_parts (x ∷ []) ≡ x ∷ []
part-last x h = grind (arith, h)

-- a text without a line feed is its own line
pub lines-last : (text : List ℕ) → 0 < length text → position_or_len is_line_feed text ≡ length text → lines text ≡ text ∷ []
lines-last text some whole =
    let none : All (λ b. is_line_feed b ≡ false) text =
    All-from_get_or (λ b. is_line_feed b ≡ false) text 0
    (λ i h. fails_before_first is_line_feed text i 0 (omega (arith, h, whole))) in
    ap lines_of_parts (slice_split_none is_line_feed text none) ∙ part-last text some

-- one byte more in the first part makes at most one line more
single : (x : List ℕ) → length (lines_of_parts (x ∷ [])) ≤ 1
single x = by (length x == 0)
  where
    by : (b : Bool) → length (cond b [] (x ∷ [])) ≤ 1
    by true = omega arith
    by false = omega arith

first-more : (x : ℕ) (parts : List (List ℕ)) → length (lines_of_parts (onto_first x parts)) ≤ 1 + length (lines_of_parts parts)
first-more x [] = omega (arith, single (x ∷ []))
first-more x (y ∷ []) = omega (arith, single (x ∷ y))
first-more x (y ∷ z ∷ more) = omega arith

empty-more : (parts : List (List ℕ)) → length (lines_of_parts ([] ∷ parts)) ≤ 1 + length (lines_of_parts parts)
empty-more [] = omega (arith, single [])
empty-more (y ∷ more) = omega arith

-- there are at most as many lines as bytes
pub length-lines : (text : List ℕ) → length (lines text) ≤ length text
length-lines [] = omega arith
length-lines (x ∷ xs) = by (x == 10) (length-lines xs)
  where
    by : (b : Bool) → length (lines xs) ≤ length xs → length (lines_of_parts (cond b ([] ∷ slice_split is_line_feed xs) (onto_first x (slice_split is_line_feed xs)))) ≤ length (x ∷ xs)
    by true h = omega (arith, h, empty-more (slice_split is_line_feed xs))
    by false h = omega (arith, h, first-more x (slice_split is_line_feed xs))

-- the number of a line, counted from 1, fits 32 bits where the number of bytes does
pub line_number-fits : (text : List ℕ) (number : ℕ) {line : List ℕ} {left more : List (List ℕ)} → length text < 2 ^ 32
    → number + length left ≡ length (lines text) → left ≡ line ∷ more → number + 1 < 2 ^ 32
line_number-fits text number short count is = omega (arith, short, count, ap length is, length-lines text)
