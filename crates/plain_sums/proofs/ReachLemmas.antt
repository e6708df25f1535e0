-- The cells of a range depend on no values but those that its lags reach.
use Rattle.std.specs.Prelude.{flat_map, map}
use Rattle.std.specs.List.{range_with_len}
use Rattle.std.proofs.Common.{◌≡◌, ◌∙◌, ap, ℕ, ◌+◌, ◌-◌, ◌/◌, ◌%◌, ◌<◌, ◌≤◌, min, ℤ, pos, ◌+ℤ◌, ◌-ℤ◌, ◌≤ℤ◌, ◌<ℤ◌, true, int_le, int_lt, List, arith}
use Rattle.std.proofs.lemmas.Int.{ints}
use Rattle.std.proofs.lemmas.List.FromFn.{length-map-range_with_len, get_or-map-range_with_len, fill_by_all}
use Rattle.corr_model.specs.declared.cell.Cell.{Cell}
use Rattle.corr_model.specs.Cell.{Samples, no_cell, cell_in, is_inside}
use Rattle.corr_model.specs.Lags.{lag_of}
use Rattle.corr_model.proofs.CellLemmas.{cell_in-values}
use Rattle.job_plan.specs.declared.plan.ProductPlan.{ProductPlan}
use Rattle.job_plan.specs.declared.plan.BaselinePlan.{BaselinePlan}
use Rattle.job_plan.specs.declared.plan.ScanPlan.{ScanPlan}
use Rattle.job_plan.specs.declared.plan.Plan.{Plan}
use Rattle.job_plan.specs.Ranges.{IsPlan}
use Rattle.job_epochs.specs.Sums.{pair_of, lag_cells, range_cells}

-- the same values at the samples from `from` up to, not including, `to`
abbrev pub AreSame : Samples → Samples → ℕ → ℕ → Type 0
AreSame z y from to = (station chan : ℕ) (n : ℤ) → pos from ≤ℤ n → n <ℤ pos to → z station chan n ≡ y station chan n

-- values that are the same where the lags of a range of a scan reach, and equal cells by them
module _ (plan : Plan) (scan : ScanPlan) (z y : Samples) (from to : ℕ) (ranges : IsPlan plan) (inside : to ≤ scan.samples)
    (same : AreSame z y (from - plan.lags / 2) (min (to + plan.lags / 2 - 1) scan.samples)) where
  -- of the first station
  here : (station chan n : ℕ) → from ≤ n → n < to → z station chan (pos n) ≡ y station chan (pos n)
  here station chan n begun under =
      same station chan (pos n) (omega (arith, ints, ranges.some_lags)) (omega (arith, ints, ranges.some_lags, inside))

  -- of the second, a lag away
  there : (station chan n i : ℕ) → from ≤ n → n < to → i < plan.lags → is_inside (pos n +ℤ lag_of plan.lags i) scan.samples ≡ true
      → z station chan (pos n +ℤ lag_of plan.lags i) ≡ y station chan (pos n +ℤ lag_of plan.lags i)
  there station chan n i begun under lag within =
      let at : ℤ = pos n +ℤ (pos i -ℤ pos (plan.lags / 2)) in
      let even : plan.lags % 2 ≡ 0 = ranges.even in
      let low : int_le (pos 0) at ≡ true = grind (arith, ints) in
      let high : int_lt at (pos scan.samples) ≡ true = grind (arith, ints) in
      same station chan at (omega (arith, ints, low, high, even)) (omega (arith, ints, low, high, even))

  cell : (p : ProductPlan) (b : BaselinePlan) (i : ℕ) → i < plan.lags
      → cell_in z (pair_of p b) scan.samples (lag_of plan.lags i) from to ≡ cell_in y (pair_of p b) scan.samples (lag_of plan.lags i) from to
  cell p b i lag =
      cell_in-values z y (pair_of p b) (pair_of p b) scan.samples (lag_of plan.lags i) from to
      (λ n begun under. here b.a p.x n begun under) (λ n begun under within. there b.b p.y n i begun under lag within)

  record_cells : (p : ProductPlan) (b : BaselinePlan) → lag_cells plan z scan from to p b ≡ lag_cells plan y scan from to p b
  record_cells p b =
      let one : ℕ → Cell = λ i. cell_in z (pair_of p b) scan.samples (lag_of plan.lags i) from to in
      let other : ℕ → Cell = λ i. cell_in y (pair_of p b) scan.samples (lag_of plan.lags i) from to in
      fill_by_all other (map one (range_with_len 0 plan.lags)) plan.lags no_cell (length-map-range_with_len one 0 plan.lags)
      (λ i lag. get_or-map-range_with_len one 0 plan.lags i i no_cell lag (omega arith) ∙ cell p b i lag)

  pub range_cells-same : range_cells plan z scan from to ≡ range_cells plan y scan from to
  range_cells-same = ap (λ (row : ProductPlan → BaselinePlan → List Cell). flat_map (λ p. flat_map (row p) scan.baselines) plan.products) (λ i p b. record_cells p b i)
