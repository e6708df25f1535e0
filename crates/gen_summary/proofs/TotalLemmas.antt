-- Sums over the first cells.
use Rattle.std.proofs.Common.{◌≡◌, ◌<◌, ◌+◌, ◌*◌, ◌^◌, ℕ, ℤ, pos, ◌+ℤ◌, ◌≤ℤ◌, FitsSigned, w64, to_z, of_z, List, [], ◌∷◌, ◌++◌, length, take, get_or, codes, refl, sym, subst, ap, ap₂, ◌∙◌, arith}
use Rattle.std.specs.Fmt.{decimal, signed_decimal}
use Rattle.std.specs.List.{sum_by}
use Rattle.std.specs.Int.{w128}
use Rattle.std.proofs.lemmas.Int.{ints, to_z-of_z}
use Rattle.std.proofs.lemmas.List.{take_more}
use Rattle.std.proofs.lemmas.List.Sums.{sum_by_more}
use Rattle.corr_model.specs.declared.cell.Cell.{Cell}
use Rattle.corr_model.specs.Records.{places_of}
use Rattle.vis_records.specs.Content.{Content}
use Rattle.gen_summary.specs.Totals.{total, line, totals_text}

total-append : (f : Cell → ℤ) (cells : List Cell) (c : Cell) → total f (cells ++ c ∷ []) ≡ total f cells +ℤ f c
total-append f [] c = omega (arith, ints)
total-append f (b ∷ cells) c = let rest = total-append f cells c in omega (arith, ints, rest)

-- one cell more
pub total-more : (f : Cell → ℤ) (cells : List Cell) (i : ℕ) (d : Cell) → i < length cells
    → total f (take (i + 1) cells) ≡ total f (take i cells) +ℤ f (get_or cells i d)
total-more f cells i d within = ap (total f) (take_more cells i d within) ∙ total-append f (take i cells) (get_or cells i d)

-- the lines of these numbers' texts
pub totals_text-lines : (content : Content) (bytes : ℕ) (records length_text pairs re im : List ℕ)
    → records ≡ decimal (length (places_of content.head))
    → length_text ≡ decimal bytes
    → pairs ≡ decimal (sum_by (λ c. c.count) content.cells)
    → re ≡ signed_decimal (total (λ c. c.re) content.cells)
    → im ≡ signed_decimal (total (λ c. c.im) content.cells)
    → totals_text content bytes
    ≡ line (codes "records") records ++ line (codes "bytes") length_text ++ line (codes "pairs") pairs ++ line (codes "re") re ++ line (codes "im") im
unfolding totals_text
totals_text-lines content bytes records length_text pairs re im e1 e2 e3 e4 e5 = rw (e1, e2, e3, e4, e5) refl

-- the numbers of one cell more
pub pairs-more : (d : Cell) (cells : List Cell) (i before x : ℕ) → i < length cells
    → before ≡ sum_by (λ c. c.count) (take i cells)
    → x ≡ (get_or cells i d).count
    → before + x ≡ sum_by (λ c. c.count) (take (i + 1) cells)
pairs-more d cells i before x within so_far one =
    ap₂ (λ m n. m + n) so_far one ∙ sym (sum_by_more (λ c. c.count) cells i d within)

pub sum-more : (d : Cell) (f : Cell → ℤ) (cells : List Cell) (i : ℕ) (before x after : ℤ) → i < length cells
    → before ≡ total f (take i cells)
    → x ≡ to_z w64 (of_z w64 (f (get_or cells i d)))
    → FitsSigned w64 (f (get_or cells i d))
    → after ≡ before +ℤ x
    → after ≡ total f (take (i + 1) cells)
sum-more d f cells i before x after within so_far one fits added =
    added ∙ ap₂ (λ m n. m +ℤ n) so_far (one ∙ to_z-of_z w64 (f (get_or cells i d)) fits) ∙ sym (total-more f cells i d within)

-- a sum of fewer than 2^64 cells, and a number more, have their 128 bits
pub added_is : (before x : ℤ) (i : ℕ) → i < 2 ^ 64
    → pos 0 ≤ℤ (before +ℤ pos (i * 9223372036854775808)) → before ≤ℤ pos (i * 9223372036854775808) → FitsSigned w64 x
    → to_z w128 (of_z w128 (to_z w128 (of_z w128 before) +ℤ to_z w128 (of_z w128 x))) ≡ before +ℤ x
added_is before x i few low high fits = omega (arith, ints)

pub added_low : (before x after : ℤ) (i : ℕ) → after ≡ before +ℤ x
    → pos 0 ≤ℤ (before +ℤ pos (i * 9223372036854775808)) → FitsSigned w64 x
    → pos 0 ≤ℤ (after +ℤ pos ((i + 1) * 9223372036854775808))
added_low before x after i added low fits = omega (arith, ints)

pub added_high : (before x after : ℤ) (i : ℕ) → after ≡ before +ℤ x → before ≤ℤ pos (i * 9223372036854775808) → FitsSigned w64 x
    → after ≤ℤ pos ((i + 1) * 9223372036854775808)
added_high before x after i added high fits = omega (arith, ints)

-- the number that is added has its 64 bits
pub one_fits : (x z : ℤ) → x ≡ to_z w64 (of_z w64 z) → FitsSigned w64 z → FitsSigned w64 x
one_fits x z one fits = subst (λ (y : ℤ). FitsSigned w64 y) (sym (one ∙ to_z-of_z w64 z fits)) fits

-- the parts of a line
pub line-parts : {word number w n : List ℕ} → w ≡ word → n ≡ number → line word number ≡ w ++ codes " " ++ n ++ (10 ∷ [])
line-parts same_word same_number = rw (same_word, same_number) refl
