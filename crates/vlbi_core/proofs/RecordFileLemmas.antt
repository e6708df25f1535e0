-- What a plan comes to is a record file: the one with the plan's head and its cells.
use Rattle.std.specs.Prelude.{flat_map}
use Rattle.std.specs.List.{All, range_with_len, enumerate_from}
use Rattle.std.specs.Int.{div_ceil}
use Rattle.std.proofs.Common.{◌≡◌, ◌∙◌, refl, sym, ap, ℕ, ◌+◌, ◌-◌, ◌*◌, ◌^◌, ◌≤◌, List, [], ◌∷◌, length, map, get_or, arith, length-append}
use Rattle.std.proofs.Math.Nat.{min-le_right}
use Rattle.std.proofs.lemmas.Option.{slice_get-get_or}
use Rattle.std.proofs.lemmas.List.{length-map}
use Rattle.std.proofs.lemmas.List.FromFn.{length-range_with_len, length-map-range_with_len}
use Rattle.corr_model.specs.Cell.{Samples}
use Rattle.corr_model.specs.Files.{Files}
use Rattle.corr_model.specs.Lags.{lag_of}
use Rattle.corr_model.specs.Records.{Head, HeadScan, IsCell, places_of, scan_places, product_places, baseline_places}
use Rattle.job_plan.specs.declared.plan.Plan.{Plan}
use Rattle.job_plan.specs.declared.plan.ScanPlan.{ScanPlan}
use Rattle.job_plan.specs.declared.plan.BaselinePlan.{BaselinePlan}
use Rattle.job_plan.specs.Ranges.{IsPlan, IsScanPlan}
use Rattle.job_plan.specs.Values.{rotated}
use Rattle.job_plan.specs.Output.{integrations_of, integration_start, integration_end, cell_of, cells_of, product_cells, integration_cells, cells_of_scan, plan_cells, product_names, head_scan, head_of, output}
use Rattle.job_epochs.proofs.EachLemmas.{Each, Each-flat_map, Each-map}
use Rattle.job_epochs.proofs.SmallValues.{rotated-small, at-place}
use Rattle.job_epochs.proofs.RangeCells.{AllSmall}
use Rattle.job_epochs.proofs.EpochCells.{cell_in-IsCell}
use Rattle.vis_records.specs.Content.{IsRecordFile}
use Rattle.vlbi_core.specs.Sample.{content_for}
use Rattle.vis_writer.proofs.Rows.{length-rows}
use Rattle.vis_writer.proofs.PlanHead.{head_is}

-- ---- each cell has its 64 bits

integration-few : (plan : Plan) (scan : ScanPlan) (m : ℕ) → scan.samples ≤ 2 ^ 40 → integration_end plan scan m - integration_start plan m ≤ 2 ^ 40
integration-few plan scan m few = omega (arith, few, min-le_right ((m + 1) * plan.integration) scan.samples)

integration-are : (plan : Plan) (z : Samples) (scan : ScanPlan) (m : ℕ) → AllSmall z → scan.samples ≤ 2 ^ 40 → Each IsCell (integration_cells plan z scan m)
integration-are plan z scan m small few =
    Each-flat_map IsCell (product_cells plan z scan m) plan.products
    (λ i p there. Each-flat_map IsCell (cells_of plan z scan m p) scan.baselines
    (λ j b here. Each-map IsCell (λ k. cell_of plan z scan m p b (lag_of plan.lags k)) (range_with_len 0 plan.lags)
    (λ k. cell_in-IsCell z (record { a = b.a; x = p.x; b = b.b; y = p.y }) scan.samples (lag_of plan.lags k) (integration_start plan m) (integration_end plan scan m) small
    (integration-few plan scan m few))))

scan-are : (plan : Plan) (z : Samples) (scan : ScanPlan) → AllSmall z → scan.samples ≤ 2 ^ 40 → Each IsCell (cells_of_scan plan z scan)
scan-are plan z scan small few =
    Each-flat_map IsCell (integration_cells plan z scan) (range_with_len 0 (integrations_of plan scan)) (λ i m there. integration-are plan z scan m small few)

plan-are : (plan : Plan) (files : Files) → IsPlan plan → Each IsCell (plan_cells plan files)
unfolding plan_cells
plan-are plan files is =
    Each-flat_map IsCell (λ (scan : ScanPlan). cells_of_scan plan (rotated plan files scan) scan) plan.scans
    (λ i scan there. scan-are plan (rotated plan files scan) scan (rotated-small plan files scan is)
    (at-place (IsScanPlan plan) plan.scans i scan is.scans there).samples)

all-each : {X : Type 0} (P : X → Type 0) (xs : List X) → Each P xs → All P xs
all-each P xs each = λ i x within. each i (get_or xs i x) (slice_get-get_or xs i x within)

-- ---- and there is one for each lag of each record

count-scan : (plan : Plan) (z : Samples) (scan : ScanPlan)
    → length (cells_of_scan plan z scan) ≡ integrations_of plan scan * (length plan.products * (length scan.baselines * plan.lags))
count-scan plan z scan =
    length-rows (integration_cells plan z scan) (length plan.products * (length scan.baselines * plan.lags)) (range_with_len 0 (integrations_of plan scan))
    (λ m. length-rows (product_cells plan z scan m) (length scan.baselines * plan.lags) plan.products
    (λ p. length-rows (cells_of plan z scan m p) plan.lags scan.baselines
    (λ b. length-map-range_with_len (λ i. cell_of plan z scan m p b (lag_of plan.lags i)) 0 plan.lags)))
    ∙ ap (λ (n : ℕ). n * (length plan.products * (length scan.baselines * plan.lags))) (length-range_with_len 0 (integrations_of plan scan))

count-places : (head : Head) (number : ℕ) (s : HeadScan)
    → length (scan_places head number s) ≡ div_ceil s.samples head.integration * (length head.products * length s.baselines)
count-places head number s =
    length-rows (product_places head number s) (length head.products * length s.baselines) (range_with_len 0 (div_ceil s.samples head.integration))
    (λ m. length-rows (baseline_places number s m) (length s.baselines) (range_with_len 0 (length head.products))
    (λ p. length-map-range_with_len (λ (b : ℕ). record { scan = number; m = m; product = p; baseline = b }) 0 (length s.baselines))
    ∙ ap (λ (n : ℕ). n * length s.baselines) (length-range_with_len 0 (length head.products)))
    ∙ ap (λ (n : ℕ). n * (length head.products * length s.baselines)) (length-range_with_len 0 (div_ceil s.samples head.integration))

counted : (plan : Plan) (files : Files) (number : ℕ) (scan : ScanPlan)
    → length (cells_of_scan plan (rotated plan files scan) scan) ≡ plan.lags * length (scan_places (head_of plan) number (head_scan scan))
counted plan files number scan =
    count-scan plan (rotated plan files scan) scan
    ∙ regroup (integrations_of plan scan) (length plan.products) (length scan.baselines) plan.lags
    ∙ ap (λ (n : ℕ). plan.lags * (integrations_of plan scan * (n * length scan.baselines))) (sym (length-map plan.products (product_names plan.channels)))
    ∙ ap (λ (n : ℕ). plan.lags * (integrations_of plan scan * (length (head_of plan).products * n))) (sym (length-map scan.baselines (λ (b : BaselinePlan). (b.a, b.b))))
    ∙ ap (λ (n : ℕ). plan.lags * n) (sym (count-places (head_of plan) number (head_scan scan)))
  where
    regroup : (i p b l : ℕ) → i * (p * (b * l)) ≡ l * (i * (p * b))
    regroup i p b l = omega arith

all-counted : (plan : Plan) (files : Files) (number : ℕ) (scans : List ScanPlan)
    → length (flat_map (λ (scan : ScanPlan). cells_of_scan plan (rotated plan files scan) scan) scans)
    ≡ plan.lags * length (flat_map (λ (s : ℕ × HeadScan). scan_places (head_of plan) s.0 s.1) (enumerate_from number (map head_scan scans)))
all-counted plan files number [] = omega arith
all-counted plan files number (scan ∷ scans) =
    let own = counted plan files number scan in
    let rest = all-counted plan files (number + 1) scans in
    length-append (cells_of_scan plan (rotated plan files scan) scan) (flat_map (λ (s : ScanPlan). cells_of_scan plan (rotated plan files s) s) scans)
    ∙ together plan.lags _ _ _ _ own rest
    ∙ ap (λ (n : ℕ). plan.lags * n) (sym (length-append (scan_places (head_of plan) number (head_scan scan))
    (flat_map (λ (s : ℕ × HeadScan). scan_places (head_of plan) s.0 s.1) (enumerate_from (number + 1) (map head_scan scans)))))
  where
    together : (l a b c d : ℕ) → a ≡ l * c → b ≡ l * d → a + b ≡ l * (c + d)
    together l a b c d first second = omega (arith, first, second)

plan-counted : (plan : Plan) (files : Files) → length (plan_cells plan files) ≡ plan.lags * length (places_of (head_of plan))
unfolding plan_cells places_of
plan-counted plan files = all-counted plan files 0 plan.scans

-- ---- the record file

pub output-IsRecordFile : (plan : Plan) (files : Files) → IsPlan plan → length plan.scans ≤ 8388608 → IsRecordFile (output plan files) (content_for plan files)
unfolding output
output-IsRecordFile plan files is few = record {
  vis = record {
    head_is = head_is plan is (omega (arith, few));
    count = plan-counted plan files;
    cells_are = all-each IsCell (plan_cells plan files) (plan-are plan files is);
  };
  is = refl;
}
