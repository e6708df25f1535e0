-- The cells of a range of a scan's samples by the bins of a pulse.
use Rattle.std.specs.Prelude.{ℕ, List, map, flat_map}
use Rattle.std.specs.List.{range_with_len}
use Rattle.corr_model.specs.declared.cell.Cell.{Cell}
use Rattle.corr_model.specs.Cell.{Samples}
use Rattle.corr_model.specs.Lags.{lag_of}
use Rattle.job_plan.specs.declared.plan.ProductPlan.{ProductPlan}
use Rattle.job_plan.specs.declared.plan.BaselinePlan.{BaselinePlan}
use Rattle.job_plan.specs.declared.plan.ScanPlan.{ScanPlan}
use Rattle.job_plan.specs.declared.plan.Plan.{Plan}
use Rattle.job_epochs.specs.Sums.{pair_of}
use Rattle.pulsar_bins.specs.Bins.{BinsFields}
use Rattle.pulsar_bins.specs.Scans.{scan_bin}
use Rattle.pulsar_bins.specs.Cells.{bin_cell_in}

-- the cells of a bin of a product at a baseline, by rising lag, over the samples from `from` up to, not including, `to`
abbrev pub bin_lag_cells : Plan → BinsFields → Samples → ScanPlan → ℕ → ℕ → ProductPlan → BaselinePlan → ℕ → List Cell
bin_lag_cells plan bins z scan from to p b bin =
    map (λ i. bin_cell_in (scan_bin plan bins scan) bin z (pair_of p b) scan.samples (lag_of plan.lags i) from to) (range_with_len 0 plan.lags)

-- those of each bin, of each baseline, and of each product
abbrev pub bin_record_cells : Plan → BinsFields → Samples → ScanPlan → ℕ → ℕ → ProductPlan → BaselinePlan → List Cell
bin_record_cells plan bins z scan from to p b = flat_map (bin_lag_cells plan bins z scan from to p b) (range_with_len 0 bins.count)

abbrev pub bin_product_cells : Plan → BinsFields → Samples → ScanPlan → ℕ → ℕ → ProductPlan → List Cell
bin_product_cells plan bins z scan from to p = flat_map (bin_record_cells plan bins z scan from to p) scan.baselines

abbrev pub range_bin_cells : Plan → BinsFields → Samples → ScanPlan → ℕ → ℕ → List Cell
range_bin_cells plan bins z scan from to = flat_map (bin_product_cells plan bins z scan from to) plan.products
