-- The cells of an integration by the bins of a pulse.
use Rattle.std.specs.Prelude.{ℕ, ◌*◌, List, length, map, flat_map}
use Rattle.std.specs.List.{range_with_len}
use Rattle.corr_model.specs.declared.cell.Cell.{Cell}
use Rattle.corr_model.specs.Cell.{Samples}
use Rattle.corr_model.specs.Lags.{lag_of}
use Rattle.job_plan.specs.declared.plan.ProductPlan.{ProductPlan}
use Rattle.job_plan.specs.declared.plan.BaselinePlan.{BaselinePlan}
use Rattle.job_plan.specs.declared.plan.ScanPlan.{ScanPlan}
use Rattle.job_plan.specs.declared.plan.Plan.{Plan}
use Rattle.pulsar_bins.specs.Bins.{BinsFields}
use Rattle.pulsar_bins.specs.Cells.{bin_cell_of}

-- the cells of a bin of a product at a baseline, by rising lag
abbrev pub bin_cells : Plan → BinsFields → Samples → ScanPlan → ℕ → ProductPlan → BaselinePlan → ℕ → List Cell
bin_cells plan bins z scan m p b bin = map (λ i. bin_cell_of plan bins z scan m p b (lag_of plan.lags i) bin) (range_with_len 0 plan.lags)

-- those of each bin, of each baseline, and of each product
abbrev pub baseline_bin_cells : Plan → BinsFields → Samples → ScanPlan → ℕ → ProductPlan → BaselinePlan → List Cell
baseline_bin_cells plan bins z scan m p b = flat_map (bin_cells plan bins z scan m p b) (range_with_len 0 bins.count)

abbrev pub product_bin_cells : Plan → BinsFields → Samples → ScanPlan → ℕ → ProductPlan → List Cell
product_bin_cells plan bins z scan m p = flat_map (baseline_bin_cells plan bins z scan m p) scan.baselines

abbrev pub integration_bin_cells : Plan → BinsFields → Samples → ScanPlan → ℕ → List Cell
integration_bin_cells plan bins z scan m = flat_map (product_bin_cells plan bins z scan m) plan.products

-- how many cells an integration of a scan has
abbrev pub bin_width : Plan → BinsFields → ScanPlan → ℕ
bin_width plan bins scan = length plan.products * length scan.baselines * bins.count * plan.lags
