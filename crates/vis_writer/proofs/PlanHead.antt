-- The head of a plan has its ranges.
use Rattle.std.proofs.Common.{◌≡◌, ℕ, ◌^◌, ◌<◌, List, length, map, ap, ◌∙◌}
use Rattle.corr_model.specs.Records.{Head, HeadScan, IsHead}
use Rattle.job_plan.specs.declared.plan.ScanPlan.{ScanPlan}
use Rattle.job_plan.specs.declared.plan.Plan.{Plan}
use Rattle.job_plan.specs.Output.{head_of, head_scan}
use Rattle.job_plan.proofs.HeadRanges.{IsHead-head_of}
use Rattle.job_plan.specs.Ranges.{IsPlan}
use Rattle.vis_records.specs.declared.head.VisProduct.{VisProduct}
use Rattle.vis_records.specs.declared.head.VisScan.{VisScan}
use Rattle.vis_records.specs.declared.head.VisBaseline.{VisBaseline}
use Rattle.vis_records.specs.Heads.{head_from, product_of, scan_of, baseline_of}
use Rattle.vis_writer.specs.PlanCells.{pair_of}

pub head_is : (plan : Plan) → IsPlan plan → length plan.scans < 2 ^ 32 → IsHead (head_of plan)
head_is plan is few = IsHead-head_of plan is few

-- the head of these numbers and lists is that of the plan
pub head_from-plan : (plan : Plan) (rate : ℕ) (stations : List (List ℕ)) (products : List VisProduct) (scans : List VisScan)
    → rate ≡ plan.rate
    → stations ≡ (head_of plan).stations
    → map product_of products ≡ (head_of plan).products
    → map scan_of scans ≡ (head_of plan).scans
    → head_from plan.lags plan.integration rate stations products scans ≡ head_of plan
head_from-plan plan rate stations products scans a b c d =
    ap (λ x. made x stations (map product_of products) (map scan_of scans)) a
    ∙ ap (λ x. made plan.rate x (map product_of products) (map scan_of scans)) b
    ∙ ap (λ x. made plan.rate (head_of plan).stations x (map scan_of scans)) c
    ∙ ap (λ x. made plan.rate (head_of plan).stations (head_of plan).products x) d
  where
    made : ℕ → List (List ℕ) → List (List ℕ × List ℕ) → List HeadScan → Head
    made rate stations products scans = record {
      lags = plan.lags;
      integration = plan.integration;
      rate = rate;
      stations = stations;
      products = products;
      scans = scans;
    }

-- a scan of these parts is that of the plan
pub head_scan-made : (scan : ScanPlan) (name : List ℕ) (second : ℕ) (baselines : List VisBaseline)
    → name ≡ scan.name
    → second ≡ scan.second
    → map baseline_of baselines ≡ map pair_of scan.baselines
    → scan_of (record { name = name; second = second; samples = scan.samples; baselines = baselines }) ≡ head_scan scan
head_scan-made scan name second baselines a b c =
    ap (λ x. made x second (map baseline_of baselines)) a
    ∙ ap (λ x. made scan.name x (map baseline_of baselines)) b
    ∙ ap (made scan.name scan.second) c
  where
    made : List ℕ → ℕ → List (ℕ × ℕ) → HeadScan
    made name second baselines = record { name = name; second = second; samples = scan.samples; baselines = baselines }
