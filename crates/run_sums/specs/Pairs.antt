-- The pairs of a scan's products and baselines, with the places of the stations' parts in the scan.
use Rattle.std.specs.Prelude.{ℕ, ◌==◌, List, map, flat_map}
use Rattle.std.specs.List.{position_or_len}
use Rattle.corr_model.specs.declared.cell.Pair.{Pair}
use Rattle.job_plan.specs.declared.plan.ProductPlan.{ProductPlan}
use Rattle.job_plan.specs.declared.plan.BaselinePlan.{BaselinePlan}
use Rattle.job_plan.specs.declared.plan.StayPlan.{StayPlan}
use Rattle.job_plan.specs.declared.plan.ScanPlan.{ScanPlan}
use Rattle.job_plan.specs.declared.plan.Plan.{Plan}

-- the place of a station's part among those of a scan, their number where it has none
abbrev pub place_in : ScanPlan → ℕ → ℕ
place_in scan station = position_or_len (λ (stay : StayPlan). stay.station == station) scan.stays

-- a product at a baseline
abbrev pub placed_pair : ScanPlan → ProductPlan → BaselinePlan → Pair
placed_pair scan p b = record { a = place_in scan b.a; x = p.x; b = place_in scan b.b; y = p.y }

-- those of each product at each baseline, by product and then by baseline
abbrev pub pairs_in : Plan → ScanPlan → List Pair
pairs_in plan scan = flat_map (λ (p : ProductPlan). map (placed_pair scan p) scan.baselines) plan.products
