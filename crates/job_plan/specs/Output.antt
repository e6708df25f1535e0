-- What a correlation appends: the record text over all cells of a plan.
use Rattle.std.specs.Prelude.{ℕ, ◌+◌, ◌*◌, min, ℤ, List, [], map, flat_map, slice_index_or}
use Rattle.std.specs.Int.{div_ceil}
use Rattle.std.specs.List.{range_with_len}
use Rattle.corr_model.specs.declared.cell.Cell.{Cell}
use Rattle.corr_model.specs.Cell.{Samples, cell_in}
use Rattle.corr_model.specs.Files.{Files}
use Rattle.corr_model.specs.Lags.{lag_of}
use Rattle.corr_model.specs.Records.{Head, HeadScan, vis_text}
use Rattle.job_plan.specs.declared.plan.StationPlan.{StationPlan}
use Rattle.job_plan.specs.declared.plan.ProductPlan.{ProductPlan}
use Rattle.job_plan.specs.declared.plan.BaselinePlan.{BaselinePlan}
use Rattle.job_plan.specs.declared.plan.ScanPlan.{ScanPlan}
use Rattle.job_plan.specs.declared.plan.Plan.{Plan}
use Rattle.job_plan.specs.Values.{rotated}

-- integrations of a scan: the last may be shorter
abbrev pub integrations_of : Plan → ScanPlan → ℕ
integrations_of plan scan = div_ceil scan.samples plan.integration

-- the sample numbers of integration m: from its start up to, not including, its end
abbrev pub integration_start : Plan → ℕ → ℕ
integration_start plan m = m * plan.integration

abbrev pub integration_end : Plan → ScanPlan → ℕ → ℕ
integration_end plan scan m = min ((m + 1) * plan.integration) scan.samples

-- the cell of a scan's integration, product, baseline and lag, from the values of the scan
abbrev pub cell_of : Plan → Samples → ScanPlan → ℕ → ProductPlan → BaselinePlan → ℤ → Cell
cell_of plan z scan m p b lag =
    cell_in z (record { a = b.a; x = p.x; b = b.b; y = p.y }) scan.samples lag
    (integration_start plan m) (integration_end plan scan m)

-- the cells of a record
abbrev pub cells_of : Plan → Samples → ScanPlan → ℕ → ProductPlan → BaselinePlan → List Cell
cells_of plan z scan m p b =
    map (λ i. cell_of plan z scan m p b (lag_of plan.lags i)) (range_with_len 0 plan.lags)

-- the cells of a scan's records, in the order integration, product, baseline
abbrev pub product_cells : Plan → Samples → ScanPlan → ℕ → ProductPlan → List Cell
product_cells plan z scan m p = flat_map (cells_of plan z scan m p) scan.baselines

abbrev pub integration_cells : Plan → Samples → ScanPlan → ℕ → List Cell
integration_cells plan z scan m = flat_map (product_cells plan z scan m) plan.products

abbrev pub cells_of_scan : Plan → Samples → ScanPlan → List Cell
cells_of_scan plan z scan = flat_map (integration_cells plan z scan) (range_with_len 0 (integrations_of plan scan))

-- all cells, scan by scan
unfoldable pub plan_cells : Plan → Files → List Cell
plan_cells plan files = flat_map (λ (scan : ScanPlan). cells_of_scan plan (rotated plan files scan) scan) plan.scans

-- the head of a plan's record file
abbrev pub product_names : List (List ℕ) → ProductPlan → List ℕ × List ℕ
product_names channels p = (slice_index_or channels p.x [], slice_index_or channels p.y [])

abbrev pub head_scan : ScanPlan → HeadScan
head_scan s = record {
  name = s.name;
  second = s.second;
  samples = s.samples;
  baselines = map (λ (b : BaselinePlan). (b.a, b.b)) s.baselines;
}

abbrev pub head_of : Plan → Head
head_of plan = record {
  lags = plan.lags;
  integration = plan.integration;
  rate = plan.rate;
  stations = map (λ (s : StationPlan). s.key) plan.stations;
  products = map (product_names plan.channels) plan.products;
  scans = map head_scan plan.scans;
}

-- the whole text
unfoldable pub output : Plan → Files → List ℕ
output plan files = vis_text (head_of plan) (plan_cells plan files)
