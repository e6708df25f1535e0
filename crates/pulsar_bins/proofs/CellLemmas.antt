-- The cells of all bins add up to the cell: each sample is of one bin, and the sums over bins and over samples change places.
use Rattle.std.specs.Prelude.{if◌then◌else◌}
use Rattle.std.proofs.Common.{◌≡◌, ◌==◌, ℕ, zero, suc, ◌+◌, ◌-◌, ◌≤◌, ◌<◌, Bool, true, false, ℤ, refl, sym, ap, ◌∙◌, arith}
use Rattle.std.proofs.lemmas.Int.{ints}
use Rattle.std.proofs.lemmas.Bool.Decides.{nat_tests}
use Rattle.corr_model.specs.declared.cell.Cell.{Cell}
use Rattle.corr_model.specs.declared.cell.Pair.{Pair}
use Rattle.corr_model.specs.Cell.{Samples, no_cell, cell_plus, product_at, sum_from, cell_in}
use Rattle.corr_model.proofs.CellLemmas.{same_cell, cell_plus-none, cell_in-sum, sum_from-same}
use Rattle.pulsar_bins.specs.Cells.{of_bin, bin_cell_in, all_bins}

none-cell_plus : (c : Cell) → cell_plus no_cell c ≡ c
none-cell_plus c = same_cell _ _ _ _ _ _ (omega (arith, ints)) (omega (arith, ints)) (omega arith)

-- two sums of two cells
cell_plus-cross : (a b c d : Cell) → cell_plus (cell_plus a b) (cell_plus c d) ≡ cell_plus (cell_plus a c) (cell_plus b d)
cell_plus-cross a b c d = same_cell _ _ _ _ _ _ (omega (arith, ints)) (omega (arith, ints)) (omega arith)

sum_from-none : (from count : ℕ) → sum_from (λ k. no_cell) from count ≡ no_cell
sum_from-none from zero = refl
sum_from-none from (suc count) = cell_plus-none (sum_from (λ k. no_cell) from count) ∙ sum_from-none from count

sum_from-plus : (f g : ℕ → Cell) (from count : ℕ) → sum_from (λ k. cell_plus (f k) (g k)) from count ≡ cell_plus (sum_from f from count) (sum_from g from count)
sum_from-plus f g from zero = sym (cell_plus-none no_cell)
sum_from-plus f g from (suc count) =
    ap (λ c. cell_plus c (cell_plus (f (from + count)) (g (from + count)))) (sum_from-plus f g from count)
    ∙ cell_plus-cross (sum_from f from count) (sum_from g from count) (f (from + count)) (g (from + count))

-- the sums over bins and over samples change places
sum_from-exchange : (f : ℕ → ℕ → Cell) (from count first bins : ℕ)
    → sum_from (λ b. sum_from (f b) from count) first bins ≡ sum_from (λ n. sum_from (λ b. f b n) first bins) from count
sum_from-exchange f from zero first bins = sum_from-none first bins
sum_from-exchange f from (suc count) first bins =
    sum_from-plus (λ b. sum_from (f b) from count) (λ b. f b (from + count)) first bins
    ∙ ap (λ c. cell_plus c (sum_from (λ b. f b (from + count)) first bins)) (sum_from-exchange f from count first bins)

-- what a sample of bin j adds to bin b
abbrev part : ℕ → Cell → ℕ → Cell
part j c b = if j == b then c else no_cell

part-same : (j b : ℕ) (c : Cell) → j ≡ b → part j c b ≡ c
part-same j b c is = let same : (j == b) ≡ true = grind (arith, nat_tests, is) in ap (λ t. if t then c else no_cell) same

part-other : (j b : ℕ) (c : Cell) → b < j → part j c b ≡ no_cell
part-other j b c less = let other : (j == b) ≡ false = grind (arith, nat_tests, less) in ap (λ t. if t then c else no_cell) other

part-past : (j b : ℕ) (c : Cell) → j < b → part j c b ≡ no_cell
part-past j b c less = let other : (j == b) ≡ false = grind (arith, nat_tests, less) in ap (λ t. if t then c else no_cell) other

-- nothing to the bins before its own
parts-before : (j : ℕ) (c : Cell) (bins : ℕ) → bins ≤ j → sum_from (part j c) 0 bins ≡ no_cell
parts-before j c zero h = refl
parts-before j c (suc bins) h =
    ap (cell_plus (sum_from (part j c) 0 bins)) (part-other j (0 + bins) c (omega (arith, h)))
    ∙ cell_plus-none (sum_from (part j c) 0 bins)
    ∙ parts-before j c bins (omega (arith, h))

-- to all bins what it adds to its own
parts-all : (j : ℕ) (c : Cell) (bins : ℕ) → j < bins → sum_from (part j c) 0 bins ≡ c
parts-all j c zero h = absurd (omega (arith, h))
parts-all j c (suc bins) h = by (j == bins) refl (λ less. parts-all j c bins less)
  where
    by : (t : Bool) → (j == bins) ≡ t → (j < bins → sum_from (part j c) 0 bins ≡ c) → sum_from (part j c) 0 (suc bins) ≡ c
    by true e rest =
        let is : j ≡ bins = grind (arith, nat_tests, e) in
        ap (λ d. cell_plus d (part j c (0 + bins))) (parts-before j c bins (omega (arith, is)))
        ∙ none-cell_plus (part j c (0 + bins))
        ∙ part-same j (0 + bins) c (omega (arith, is))
    by false e rest =
        let less : j < bins = grind (arith, nat_tests, e, h) in
        ap (cell_plus (sum_from (part j c) 0 bins)) (part-past j (0 + bins) c (omega (arith, less)))
        ∙ cell_plus-none (sum_from (part j c) 0 bins)
        ∙ rest less

-- where each sample is of one of so many bins, their cells add up to the cell
pub bin_cells-sum : (bins : ℕ → ℕ) (count : ℕ) (z : Samples) (pair : Pair) (samples : ℕ) (lag : ℤ) (from to : ℕ) → ((n : ℕ) → bins n < count)
    → all_bins count (λ b. bin_cell_in bins b z pair samples lag from to) ≡ cell_in z pair samples lag from to
unfolding bin_cell_in
bin_cells-sum bins count z pair samples lag from to each =
    let f : ℕ → Cell = product_at z pair samples lag in
    sum_from-exchange (λ b. of_bin bins b f) from (to - from) 0 count
    ∙ sum_from-same (λ n. sum_from (λ b. of_bin bins b f n) 0 count) f from (to - from)
    (λ k h. parts-all (bins (from + k)) (f (from + k)) count (each (from + k)))
    ∙ sym (cell_in-sum z pair samples lag from to)
