-- The sizes of a plan are those of a job.
use Rattle.std.proofs.Common.{◌≡◌, ◌∙◌, ap, ℕ, ◌*◌, ◌≤◌, List, length, map, take, get_or, arith}
use Rattle.std.proofs.lemmas.List.{length-map, take_all}
use Rattle.std.proofs.lemmas.List.Elements.{All-map}
use Rattle.piece_plan.specs.declared.job.ScanSize.{ScanSize}
use Rattle.piece_plan.specs.Epochs.{job_sizes, IsJob, IsScan}
use Rattle.job_plan.specs.declared.plan.ScanPlan.{ScanPlan}
use Rattle.job_plan.specs.declared.plan.Plan.{Plan}
use Rattle.job_plan.specs.Ranges.{IsPlan, IsScanPlan}
use Rattle.job_epochs.specs.Sizes.{size_of, sizes_of}

size_of-IsScan : (plan : Plan) (scan : ScanPlan) → IsPlan plan → IsScanPlan plan scan → IsScan plan.integration plan.lags (size_of plan scan)
size_of-IsScan plan scan is scan_is =
    let same : length plan.products * length scan.baselines * plan.lags ≡ length scan.baselines * length plan.products * plan.lags =
    omega arith in
    record {
      first = omega arith;
      samples = scan_is.samples;
      products = omega (arith, is.some_product);
      baselines = omega (arith, scan_is.some_baseline);
      cells = rw same scan_is.cells;
    }

pub sizes_of-IsJob : (plan : Plan) → IsPlan plan → length plan.scans ≤ 8388608 → IsJob (sizes_of plan)
sizes_of-IsJob plan is few = record {
  many = omega (arith, length-map plan.scans (size_of plan), few);
  scans =
      All-map (IsScan plan.integration plan.lags) (size_of plan) plan.scans
      (λ k d within. size_of-IsScan plan (get_or plan.scans k d) is (is.scans k d within));
  integration = is.some_integration;
  longest = is.integration;
  epoch = is.some_epoch;
  short = is.epoch;
  lags = record { some = is.some_lags; within = is.lags; even = is.even };
}

-- the sizes of all scans, as they are pushed
pub sizes-IsJob : (own plan : Plan) (scans : List ScanPlan) (pushed sizes : List ScanSize) (n : ℕ) → own ≡ plan → IsPlan plan
    → length plan.scans ≤ 8388608 → scans ≡ own.scans → length scans ≤ n → pushed ≡ map (size_of own) (take n scans) → sizes ≡ pushed
    → IsJob (job_sizes sizes own.integration own.epoch own.lags)
sizes-IsJob own plan scans pushed sizes n same is few all through done kept =
    let own_is : IsPlan own = rw same is in
    let own_few : length own.scans ≤ 8388608 = rw same few in
    rw (kept ∙ done ∙ ap (map (size_of own)) (take_all n scans through ∙ all)) (sizes_of-IsJob own own_is own_few)
