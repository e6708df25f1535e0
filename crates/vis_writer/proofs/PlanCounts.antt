-- The cells of a plan are as many as its head says.
use Rattle.std.specs.Prelude.{◌≡◌, ℕ, zero, suc, ◌*◌, ◌<◌, List, [], ◌∷◌, length, map, slice_get, Option, Some, None, refl}
use Rattle.std.specs.Option.{option_map, option_map_or}
use Rattle.std.proofs.Common.{sym, ap, ◌∙◌, arith}
use Rattle.std.proofs.lemmas.List.{length-map}
use Rattle.std.proofs.lemmas.List.FromFn.{length-map-range_with_len}
use Rattle.std.proofs.lemmas.Option.{slice_get-map, slice_get_within}
use Rattle.corr_model.specs.Cell.{Samples}
use Rattle.job_plan.specs.declared.plan.ScanPlan.{ScanPlan}
use Rattle.job_plan.specs.declared.plan.Plan.{Plan}
use Rattle.corr_model.specs.Lags.{lag_of}
use Rattle.job_plan.specs.Output.{head_of, head_scan, product_names, cell_of, cells_of, product_cells, integration_cells}
use Rattle.corr_model.specs.Records.{HeadScan}
use Rattle.vis_writer.specs.Cells.{IsFull, integrations_at, integrations_of, cells_at}
use Rattle.vis_writer.specs.Cells as counts
use Rattle.vis_writer.specs.PlanCells.{cells_by, pair_of}
use Rattle.vis_writer.proofs.Rows.{length-rows}

length-integration_cells : (plan : Plan) (z : Samples) (scan : ScanPlan) (m : ℕ)
    → length (integration_cells plan z scan m) ≡ length plan.products * (length scan.baselines * plan.lags)
length-integration_cells plan z scan m =
    length-rows (product_cells plan z scan m) (length scan.baselines * plan.lags) plan.products
    (λ p. length-rows (cells_of plan z scan m p) plan.lags scan.baselines
    (λ b. length-map-range_with_len (λ i. cell_of plan z scan m p b (lag_of plan.lags i)) 0 plan.lags))

counted : (plan : Plan) (scan : ScanPlan) → counts.cells_of (head_of plan) (head_scan scan) ≡ length plan.products * (length scan.baselines * plan.lags)
counted plan scan =
    ap (λ n. n * length (map pair_of scan.baselines) * plan.lags) (length-map plan.products (product_names plan.channels))
    ∙ ap (λ n. length plan.products * n * plan.lags) (length-map scan.baselines pair_of)
    ∙ omega arith

-- a scan of the plan's head is one of the plan
pub scan-seen : (plan : Plan) (number : ℕ) (scan : ScanPlan) → slice_get plan.scans number ≡ Some scan
    → slice_get (head_of plan).scans number ≡ Some (head_scan scan)
scan-seen plan number scan there = slice_get-map head_scan plan.scans number ∙ ap (option_map head_scan) there

scan-within : (plan : Plan) (number m : ℕ) → m < integrations_at (head_of plan) number → number < length plan.scans
scan-within plan number m inside = by (slice_get plan.scans number) refl
  where
    by : (o : Option ScanPlan) → slice_get plan.scans number ≡ o → number < length plan.scans
    by (Some scan) there = slice_get_within plan.scans number scan there
    by None there =
        let none : integrations_at (head_of plan) number ≡ 0 =
        ap (λ (o : Option HeadScan). option_map_or (integrations_of (head_of plan)) o 0)
        (slice_get-map head_scan plan.scans number ∙ ap (option_map head_scan) there) in
        absurd (omega (arith, inside, none))

pub scan-cells : (plan : Plan) (number : ℕ) (scan : ScanPlan) → slice_get plan.scans number ≡ Some scan
    → cells_at (head_of plan) number ≡ length plan.products * (length scan.baselines * plan.lags)
scan-cells plan number scan there =
    ap (λ (o : Option HeadScan). option_map_or (counts.cells_of (head_of plan)) o 0) (scan-seen plan number scan there) ∙ counted plan scan

pub cells-at : (plan : Plan) (values : ScanPlan → Samples) (number m : ℕ) (scan : ScanPlan) → slice_get plan.scans number ≡ Some scan
    → cells_by plan values number m ≡ integration_cells plan (values scan) scan m
cells-at plan values number m scan there = ap (λ (o : Option ScanPlan). option_map_or (λ (s : ScanPlan). integration_cells plan (values s) s m) o []) there

-- a thing inside a list is there
some-within : {X : Type 0} (xs : List X) (i : ℕ) → i < length xs → slice_get xs i ≡ None → ⊥
some-within [] i h none = omega (arith, h)
some-within (x ∷ xs) zero h none = cc
some-within (x ∷ xs) (suc i) h none = some-within xs i (omega (arith, h)) none

-- each integration of the plan's head has its cells
pub plan_full : (plan : Plan) (values : ScanPlan → Samples) → IsFull (head_of plan) (cells_by plan values)
plan_full plan values = λ number m inside. by number m inside (slice_get plan.scans number) refl
  where
    by : (number m : ℕ) → m < integrations_at (head_of plan) number → (o : Option ScanPlan) → slice_get plan.scans number ≡ o
        → length (cells_by plan values number m) ≡ cells_at (head_of plan) number
    by number m inside (Some scan) there =
        ap length (cells-at plan values number m scan there)
        ∙ length-integration_cells plan (values scan) scan m
        ∙ sym (scan-cells plan number scan there)
    by number m inside None there = absurd (some-within plan.scans number (scan-within plan number m inside) there)
