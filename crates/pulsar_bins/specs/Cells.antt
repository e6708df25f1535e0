-- The cells of a bin: what the pairs of samples add whose first is of that bin.
use Rattle.std.specs.Prelude.{ℕ, ◌-◌, ◌==◌, ℤ, if◌then◌else◌}
use Rattle.corr_model.specs.declared.cell.Cell.{Cell}
use Rattle.corr_model.specs.declared.cell.Pair.{Pair}
use Rattle.corr_model.specs.Cell.{Samples, no_cell, product_at, sum_from}
use Rattle.job_plan.specs.declared.plan.ProductPlan.{ProductPlan}
use Rattle.job_plan.specs.declared.plan.BaselinePlan.{BaselinePlan}
use Rattle.job_plan.specs.declared.plan.ScanPlan.{ScanPlan}
use Rattle.job_plan.specs.declared.plan.Plan.{Plan}
use Rattle.job_plan.specs.Output.{integration_start, integration_end}
use Rattle.pulsar_bins.specs.Bins.{BinsFields}
use Rattle.pulsar_bins.specs.Scans.{scan_bin}

-- what sample n adds to a bin, where `bins` gives the bin of each sample: nothing where it is of another bin
abbrev pub of_bin : (ℕ → ℕ) → ℕ → (ℕ → Cell) → ℕ → Cell
of_bin bins b adds n = if bins n == b then adds n else no_cell

-- the cell of the sample numbers from `from` up to, not including, `to` that are of a bin
unfoldable pub bin_cell_in : (ℕ → ℕ) → ℕ → Samples → Pair → ℕ → ℤ → ℕ → ℕ → Cell
bin_cell_in bins b z pair samples lag from to = sum_from (of_bin bins b (product_at z pair samples lag)) from (to - from)

-- the cell of a scan's integration, product, baseline, lag and bin, from the values of the scan
abbrev pub bin_cell_of : Plan → BinsFields → Samples → ScanPlan → ℕ → ProductPlan → BaselinePlan → ℤ → ℕ → Cell
bin_cell_of plan bins z scan m p b lag bin =
    bin_cell_in (scan_bin plan bins scan) bin z (record { a = b.a; x = p.x; b = b.b; y = p.y }) scan.samples lag
    (integration_start plan m) (integration_end plan scan m)

-- the sum of the cells of all bins
abbrev pub all_bins : ℕ → (ℕ → Cell) → Cell
all_bins count cells = sum_from cells 0 count
