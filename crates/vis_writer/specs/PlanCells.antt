-- The cells of a plan, by the numbers of scans and integrations.
use Rattle.std.specs.Prelude.{ℕ, ◌<◌, List, [], slice_get}
use Rattle.std.specs.Option.{option_map_or}
use Rattle.corr_model.specs.Cell.{Samples}
use Rattle.corr_model.specs.Files.{Files}
use Rattle.job_plan.specs.declared.plan.StationPlan.{StationPlan}
use Rattle.job_plan.specs.declared.plan.ProductPlan.{ProductPlan}
use Rattle.job_plan.specs.declared.plan.BaselinePlan.{BaselinePlan}
use Rattle.job_plan.specs.declared.plan.ScanPlan.{ScanPlan}
use Rattle.job_plan.specs.declared.plan.Plan.{Plan}
use Rattle.job_plan.specs.Values.{rotated}
use Rattle.job_plan.specs.Output.{integration_cells}
use Rattle.vis_writer.specs.Cells.{CellsOf}

-- the cells of the scan with this number, from the values of each scan
abbrev pub cells_by : Plan → (ScanPlan → Samples) → CellsOf
cells_by plan values number m =
    option_map_or (λ (scan : ScanPlan). integration_cells plan (values scan) scan m) (slice_get plan.scans number) []

-- the cells of a plan, from what the files hold
abbrev pub cells_from : Plan → Files → CellsOf
cells_from plan files = cells_by plan (rotated plan files)

-- a station's key, and a baseline as two numbers
abbrev pub key_of : StationPlan → List ℕ
key_of s = s.key

abbrev pub pair_of : BaselinePlan → ℕ × ℕ
pair_of b = (b.a, b.b)

-- a product of channels below a number
abbrev pub is_below : ℕ → ProductPlan → Type 0
is_below channels p = (p.x < channels) × (p.y < channels)
