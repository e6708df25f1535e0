-- The cell of two rows that hold the samples of a scan is the cell of the scan's range.
use Rattle.std.specs.Prelude.{if◌then◌else◌}
use Rattle.std.proofs.Common.{◌≡◌, ℕ, ◌+◌, ◌-◌, ◌<◌, Bool, true, false, ℤ, pos, ◌+ℤ◌, Some, None, refl, sym, ap, ap₂, ◌∙◌, arith}
use Rattle.std.proofs.lemmas.Int.{ints}
use Rattle.corr_model.specs.declared.cell.Pair.{Pair}
use Rattle.corr_model.specs.Cell.{Value, Samples, no_cell, is_inside, product_of, product_at, sum_from, cell_in}
use Rattle.corr_model.proofs.CellLemmas.{cell_in-sum}
use Rattle.byte_streams.specs.declared.row.Row.{Row}
use Rattle.byte_streams.specs.Rows.{row_len, row_value}
use Rattle.block_lags.specs.Cells.{pair_at, lag_cell}
use Rattle.block_lags.specs.Scans.{value_inside, AreRows}
use Rattle.block_lags.proofs.Blocks.{sum_from-moved, sum_from-none}

product_of-none : (v : Value) → product_of v None ≡ no_cell
product_of-none (Some a) = refl
product_of-none None = refl

inside : (v w : Value) (b : Bool) → product_of v (if b then w else None) ≡ (if b then product_of v w else no_cell)
inside v w true = refl
inside v w false = product_of-none v

pair-is : (z : Samples) (pair : Pair) (samples n : ℕ) (lag m : ℤ) (v w : Value) → v ≡ z pair.a pair.x (pos n) → w ≡ value_inside z pair samples m → m ≡ pos n +ℤ lag
    → product_of v w ≡ product_at z pair samples lag n
pair-is z pair samples n lag m v w first second e =
    ap₂ product_of first (second ∙ ap (value_inside z pair samples) e)
    ∙ inside (z pair.a pair.x (pos n)) (z pair.b pair.y (pos n +ℤ lag)) (is_inside (pos n +ℤ lag) samples)

pub lag_cell-scan : (z : Samples) (pair : Pair) (samples from : ℕ) (least : ℤ) (s t : Row) (i : ℕ) → AreRows z pair samples from least s t
    → row_len s + i < row_len t
    → lag_cell (row_value s) (row_value t) i (row_len s) ≡ cell_in z pair samples (least +ℤ pos i) from (from + row_len s)
unfolding lag_cell
lag_cell-scan z pair samples from least s t i rows room =
    let n = row_len s in
    let count : from + n - from ≡ n = omega arith in
    sum_from-moved (pair_at (row_value s) (row_value t) i) (product_at z pair samples (least +ℤ pos i)) 0 from n (λ k lt.
    let place : 0 + k ≡ k = omega arith in
    ap (pair_at (row_value s) (row_value t) i) place
    ∙ pair-is z pair samples (from + k) (least +ℤ pos i) (pos (from + (i + k)) +ℤ least) (row_value s k) (row_value t (i + k))
    (rows.first k lt) (rows.second (i + k) (omega arith)) (omega (arith, ints)))
    ∙ sym (cell_in-sum z pair samples (least +ℤ pos i) from (from + n) ∙ ap (sum_from (product_at z pair samples (least +ℤ pos i)) from) count)

-- the cell of rows that have no pair of values
pub lag_cell-none : (v w : ℕ → Value) (lag n : ℕ) → ((k : ℕ) → k < n → product_of (v k) (w (lag + k)) ≡ no_cell) → lag_cell v w lag n ≡ no_cell
unfolding lag_cell
lag_cell-none v w lag n none =
    sum_from-none (pair_at v w lag) 0 n (λ k lt.
    let place : 0 + k ≡ k = omega arith in
    ap (pair_at v w lag) place ∙ none k lt)

pub first-none : (v w : ℕ → Value) (lag n : ℕ) → ((k : ℕ) → k < n → v k ≡ None) → lag_cell v w lag n ≡ no_cell
first-none v w lag n none = lag_cell-none v w lag n (λ k lt. ap (λ (x : Value). product_of x (w (lag + k))) (none k lt))

pub second-none : (v w : ℕ → Value) (lag n : ℕ) → ((k : ℕ) → k < n → w (lag + k) ≡ None) → lag_cell v w lag n ≡ no_cell
second-none v w lag n none = lag_cell-none v w lag n (λ k lt. ap (product_of (v k)) (none k lt) ∙ product_of-none (v k))
