-- The cells of a range of samples: how many there are, and that those of its two parts add up with no wrap.
use Rattle.std.specs.Prelude.{replicate}
use Rattle.std.specs.Int.{int_wrapping_add}
use Rattle.std.specs.List.{range_with_len}
use Rattle.std.proofs.Common.{◌≡◌, ◌∙◌, sym, ap, ℕ, ◌+◌, ◌-◌, ◌*◌, ◌^◌, ◌≤◌, ℤ, pos, negsuc, ◌+ℤ◌, ◌≤ℤ◌, neg_ℤ, FitsSigned, w64, length, IfSome, arith}
use Rattle.std.proofs.lemmas.Int.{ints, wrapping_add_is, int_wrap_fits}
use Rattle.std.proofs.lemmas.List.FromFn.{length-map-range_with_len, length-range_with_len}
use Rattle.corr_model.specs.declared.cell.Cell.{Cell}
use Rattle.corr_model.specs.declared.cell.Pair.{Pair}
use Rattle.corr_model.specs.Cell.{Samples, no_cell, cell_plus, cell_in, AreSmall}
use Rattle.corr_model.specs.Lags.{lag_of}
use Rattle.corr_model.proofs.CellLemmas.{same_cell, cell_in-none, cell_in-split, cell_in-grown, IsGrown}
use Rattle.job_plan.specs.declared.plan.ProductPlan.{ProductPlan}
use Rattle.job_plan.specs.declared.plan.BaselinePlan.{BaselinePlan}
use Rattle.job_plan.specs.declared.plan.ScanPlan.{ScanPlan}
use Rattle.job_plan.specs.declared.plan.Plan.{Plan}
use Rattle.job_epochs.specs.Sums.{pair_of, lag_cells, baseline_cells, range_cells}
use Rattle.job_epochs.specs.Added.{plus_wrapped, add_cells, width_of}
use Rattle.job_epochs.proofs.RowLemmas.{add_cells-map, add_cells-rows, length-rows, map-same, rows-same}

-- values all of which are small
abbrev pub AllSmall : Samples → Type 0
AllSmall z = (station chan : ℕ) (n : ℤ) → IfSome (z station chan n) AreSmall

pub cell_in-IsGrown : (z : Samples) (pair : Pair) (samples : ℕ) (lag : ℤ) (from to : ℕ) → AllSmall z
    → IsGrown (cell_in z pair samples lag from to) (to - from)
cell_in-IsGrown z pair samples lag from to small = cell_in-grown z pair samples lag from to (small pair.a pair.x) (small pair.b pair.y)

-- what no more than 2^40 pairs add up to is within 64 bits
pub part-fits : (x : ℤ) (n : ℕ) → neg_ℤ (pos (450 * n)) ≤ℤ x → x ≤ℤ pos (450 * n) → n ≤ 2 ^ 40 → FitsSigned w64 x
part-fits (pos k) n low high few = omega (arith, ints)
part-fits (negsuc k) n low high few = omega (arith, ints)

sum-is : (x y : ℤ) (n m : ℕ) → neg_ℤ (pos (450 * n)) ≤ℤ x → x ≤ℤ pos (450 * n) → neg_ℤ (pos (450 * m)) ≤ℤ y → y ≤ℤ pos (450 * m)
    → n + m ≤ 2 ^ 40 → int_wrapping_add w64 x y ≡ x +ℤ y
sum-is x y n m x_low x_high y_low y_high few =
    wrapping_add_is w64 x y (part-fits x n x_low x_high (omega arith)) (part-fits y m y_low y_high (omega arith))
    ∙ int_wrap_fits w64 (x +ℤ y) (part-fits (x +ℤ y) (n + m) (omega (arith, ints)) (omega (arith, ints)) few)

pub plus_wrapped-is : (c d : Cell) (n m : ℕ) → IsGrown c n → IsGrown d m → n + m ≤ 2 ^ 40 → plus_wrapped c d ≡ cell_plus c d
plus_wrapped-is c d n m first second few =
    same_cell _ _ _ _ _ _
    (sum-is c.re d.re n m first.re_low first.re_high second.re_low second.re_high few)
    (sum-is c.im d.im n m first.im_low first.im_high second.im_low second.im_high few)
    (omega (arith, first.count, second.count))

-- a cell of a range from those of its two parts
cell_in-wrapped : (z : Samples) (pair : Pair) (samples : ℕ) (lag : ℤ) (from middle to : ℕ) → AllSmall z
    → from ≤ middle → middle ≤ to → to ≤ 2 ^ 40
    → plus_wrapped (cell_in z pair samples lag from middle) (cell_in z pair samples lag middle to)
    ≡ cell_in z pair samples lag from to
cell_in-wrapped z pair samples lag from middle to small h k few =
    plus_wrapped-is (cell_in z pair samples lag from middle) (cell_in z pair samples lag middle to) (middle - from) (to - middle)
    (cell_in-IsGrown z pair samples lag from middle small) (cell_in-IsGrown z pair samples lag middle to small) (omega arith)
    ∙ sym (cell_in-split z pair samples lag from middle to h k)

length-lag_cells : (plan : Plan) (z : Samples) (scan : ScanPlan) (from to : ℕ) (p : ProductPlan) (b : BaselinePlan)
    → length (lag_cells plan z scan from to p b) ≡ plan.lags
length-lag_cells plan z scan from to p b =
    length-map-range_with_len (λ i. cell_in z (pair_of p b) scan.samples (lag_of plan.lags i) from to) 0 plan.lags

length-baseline_cells : (plan : Plan) (z : Samples) (scan : ScanPlan) (from to : ℕ) (p : ProductPlan)
    → length (baseline_cells plan z scan from to p) ≡ length scan.baselines * plan.lags
length-baseline_cells plan z scan from to p =
    length-rows (lag_cells plan z scan from to p) plan.lags scan.baselines (length-lag_cells plan z scan from to p)

pub length-range_cells : (plan : Plan) (z : Samples) (scan : ScanPlan) (from to : ℕ)
    → length (range_cells plan z scan from to) ≡ width_of plan scan
length-range_cells plan z scan from to =
    length-rows (baseline_cells plan z scan from to) (length scan.baselines * plan.lags) plan.products
    (length-baseline_cells plan z scan from to)
    ∙ omega arith

-- no sample
pub range_cells-none : (plan : Plan) (z : Samples) (scan : ScanPlan) (from : ℕ)
    → range_cells plan z scan from from ≡ replicate (width_of plan scan) no_cell
range_cells-none plan z scan from =
    let count : length plan.products * (length scan.baselines * plan.lags) ≡ width_of plan scan = omega arith in
    rows-same (baseline_cells plan z scan from from) no_cell (length scan.baselines * plan.lags) plan.products
    (λ p. rows-same (lag_cells plan z scan from from p) no_cell plan.lags scan.baselines
    (λ b. map-same (λ i. cell_in z (pair_of p b) scan.samples (lag_of plan.lags i) from from) no_cell (range_with_len 0 plan.lags)
    (λ i. cell_in-none z (pair_of p b) scan.samples (lag_of plan.lags i) from)
    ∙ ap (λ (n : ℕ). replicate n no_cell) (length-range_with_len 0 plan.lags)))
    ∙ ap (λ (n : ℕ). replicate n no_cell) count

-- two parts
pub range_cells-split : (plan : Plan) (z : Samples) (scan : ScanPlan) (from middle to : ℕ) → AllSmall z
    → from ≤ middle → middle ≤ to → to ≤ 2 ^ 40
    → add_cells (range_cells plan z scan from middle) (range_cells plan z scan middle to) ≡ range_cells plan z scan from to
range_cells-split plan z scan from middle to small h k few =
    add_cells-rows
    (baseline_cells plan z scan from middle) (baseline_cells plan z scan middle to) (baseline_cells plan z scan from to) plan.products
    (λ p. length-baseline_cells plan z scan from middle p ∙ sym (length-baseline_cells plan z scan middle to p))
    (λ p. add_cells-rows (lag_cells plan z scan from middle p) (lag_cells plan z scan middle to p) (lag_cells plan z scan from to p)
    scan.baselines
    (λ b. length-lag_cells plan z scan from middle p b ∙ sym (length-lag_cells plan z scan middle to p b))
    (λ b. add_cells-map
    (λ i. cell_in z (pair_of p b) scan.samples (lag_of plan.lags i) from middle)
    (λ i. cell_in z (pair_of p b) scan.samples (lag_of plan.lags i) middle to)
    (λ i. cell_in z (pair_of p b) scan.samples (lag_of plan.lags i) from to)
    (range_with_len 0 plan.lags)
    (λ i. cell_in-wrapped z (pair_of p b) scan.samples (lag_of plan.lags i) from middle to small h k few)))
