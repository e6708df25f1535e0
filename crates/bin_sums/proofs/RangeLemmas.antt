-- The cells of a range by bins: how many there are, and that those of its two parts add up with no wrap.
use Rattle.std.specs.Prelude.{replicate}
use Rattle.std.specs.List.{range_with_len}
use Rattle.std.proofs.Common.{◌≡◌, ◌∙◌, sym, ap, ℕ, ◌*◌, ◌^◌, ◌≤◌, length, arith}
use Rattle.std.proofs.lemmas.List.FromFn.{length-map-range_with_len, length-range_with_len}
use Rattle.corr_model.specs.Cell.{Samples, no_cell}
use Rattle.corr_model.specs.Lags.{lag_of}
use Rattle.job_plan.specs.declared.plan.ProductPlan.{ProductPlan}
use Rattle.job_plan.specs.declared.plan.BaselinePlan.{BaselinePlan}
use Rattle.job_plan.specs.declared.plan.ScanPlan.{ScanPlan}
use Rattle.job_plan.specs.declared.plan.Plan.{Plan}
use Rattle.job_epochs.specs.Sums.{pair_of}
use Rattle.job_epochs.specs.Added.{add_cells}
use Rattle.job_epochs.proofs.RangeCells.{AllSmall}
use Rattle.job_epochs.proofs.RowLemmas.{add_cells-map, add_cells-rows, length-rows, map-same, rows-same}
use Rattle.pulsar_bins.specs.Bins.{BinsFields}
use Rattle.pulsar_bins.specs.Scans.{scan_bin}
use Rattle.pulsar_bins.specs.Cells.{bin_cell_in}
use Rattle.bin_sums.specs.Binned.{bin_width}
use Rattle.bin_sums.specs.Range.{bin_lag_cells, bin_record_cells, bin_product_cells, range_bin_cells}
use Rattle.bin_sums.proofs.GatedLemmas.{bin_cell_in-none, bin_cell_in-wrapped}

-- ---- how many cells

module _ (plan : Plan) (bins : BinsFields) (z : Samples) (scan : ScanPlan) (from to : ℕ) where
  length-bin_lag_cells : (p : ProductPlan) (b : BaselinePlan) (bin : ℕ) → length (bin_lag_cells plan bins z scan from to p b bin) ≡ plan.lags
  length-bin_lag_cells p b bin =
      length-map-range_with_len (λ i. bin_cell_in (scan_bin plan bins scan) bin z (pair_of p b) scan.samples (lag_of plan.lags i) from to) 0 plan.lags

  length-bin_record_cells : (p : ProductPlan) (b : BaselinePlan) → length (bin_record_cells plan bins z scan from to p b) ≡ bins.count * plan.lags
  length-bin_record_cells p b =
      length-rows (bin_lag_cells plan bins z scan from to p b) plan.lags (range_with_len 0 bins.count) (length-bin_lag_cells p b)
      ∙ ap (λ n. n * plan.lags) (length-range_with_len 0 bins.count)

  length-bin_product_cells : (p : ProductPlan) → length (bin_product_cells plan bins z scan from to p) ≡ length scan.baselines * (bins.count * plan.lags)
  length-bin_product_cells p =
      length-rows (bin_record_cells plan bins z scan from to p) (bins.count * plan.lags) scan.baselines (length-bin_record_cells p)

  width : length plan.products * (length scan.baselines * (bins.count * plan.lags)) ≡ bin_width plan bins scan
  width = grind arith

  pub length-range_bin_cells : length (range_bin_cells plan bins z scan from to) ≡ bin_width plan bins scan
  length-range_bin_cells =
      length-rows (bin_product_cells plan bins z scan from to) (length scan.baselines * (bins.count * plan.lags)) plan.products length-bin_product_cells ∙ width

-- ---- no sample

pub range_bin_cells-none : (plan : Plan) (bins : BinsFields) (z : Samples) (scan : ScanPlan) (from : ℕ)
    → range_bin_cells plan bins z scan from from ≡ replicate (bin_width plan bins scan) no_cell
range_bin_cells-none plan bins z scan from =
    rows-same (bin_product_cells plan bins z scan from from) no_cell (length scan.baselines * (bins.count * plan.lags)) plan.products
    (λ p. rows-same (bin_record_cells plan bins z scan from from p) no_cell (bins.count * plan.lags) scan.baselines
    (λ b. rows-same (bin_lag_cells plan bins z scan from from p b) no_cell plan.lags (range_with_len 0 bins.count)
    (λ bin. map-same (λ i. bin_cell_in (scan_bin plan bins scan) bin z (pair_of p b) scan.samples (lag_of plan.lags i) from from) no_cell (range_with_len 0 plan.lags)
    (λ i. bin_cell_in-none (scan_bin plan bins scan) bin z (pair_of p b) scan.samples (lag_of plan.lags i) from)
    ∙ ap (λ (n : ℕ). replicate n no_cell) (length-range_with_len 0 plan.lags))
    ∙ ap (λ (n : ℕ). replicate (n * plan.lags) no_cell) (length-range_with_len 0 bins.count)))
    ∙ ap (λ (n : ℕ). replicate n no_cell) (width plan bins z scan from from)

-- ---- two parts

pub range_bin_cells-split : (plan : Plan) (bins : BinsFields) (z : Samples) (scan : ScanPlan) (from middle to : ℕ) → AllSmall z
    → from ≤ middle → middle ≤ to → to ≤ 2 ^ 40
    → add_cells (range_bin_cells plan bins z scan from middle) (range_bin_cells plan bins z scan middle to) ≡ range_bin_cells plan bins z scan from to
range_bin_cells-split plan bins z scan from middle to small h k few =
    add_cells-rows
    (bin_product_cells plan bins z scan from middle) (bin_product_cells plan bins z scan middle to) (bin_product_cells plan bins z scan from to) plan.products
    (λ p. length-bin_product_cells plan bins z scan from middle p ∙ sym (length-bin_product_cells plan bins z scan middle to p))
    (λ p. add_cells-rows
    (bin_record_cells plan bins z scan from middle p) (bin_record_cells plan bins z scan middle to p) (bin_record_cells plan bins z scan from to p) scan.baselines
    (λ b. length-bin_record_cells plan bins z scan from middle p b ∙ sym (length-bin_record_cells plan bins z scan middle to p b))
    (λ b. add_cells-rows
    (bin_lag_cells plan bins z scan from middle p b) (bin_lag_cells plan bins z scan middle to p b) (bin_lag_cells plan bins z scan from to p b)
    (range_with_len 0 bins.count)
    (λ bin. length-bin_lag_cells plan bins z scan from middle p b bin ∙ sym (length-bin_lag_cells plan bins z scan middle to p b bin))
    (λ bin. add_cells-map
    (λ i. bin_cell_in (scan_bin plan bins scan) bin z (pair_of p b) scan.samples (lag_of plan.lags i) from middle)
    (λ i. bin_cell_in (scan_bin plan bins scan) bin z (pair_of p b) scan.samples (lag_of plan.lags i) middle to)
    (λ i. bin_cell_in (scan_bin plan bins scan) bin z (pair_of p b) scan.samples (lag_of plan.lags i) from to)
    (range_with_len 0 plan.lags)
    (λ i. bin_cell_in-wrapped (scan_bin plan bins scan) bin z (pair_of p b) scan.samples (lag_of plan.lags i) from middle to small h k few))))
