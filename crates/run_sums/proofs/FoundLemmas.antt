-- An epoch of a job is one of a scan of its plan.
use Rattle.std.specs.Prelude.{slice_get}
use Rattle.std.proofs.Common.{◌≡◌, ◌∙◌, ◌≤◌, length, Option, None, Some, option_map, refl, sym, ap, subst, arith}
use Rattle.std.proofs.lemmas.Option.{slice_get-map, slice_get_within, get_or_from_slice_get, same_Some}
use Rattle.piece_plan.specs.declared.job.ScanSize.{ScanSize}
use Rattle.piece_plan.specs.declared.epoch.EpochPlan.{EpochPlan}
use Rattle.piece_plan.specs.Epochs.{JobSizes, IsEpoch}
use Rattle.piece_plan.proofs.EpochLemmas.{IsEpoch-IsOfPlan}
use Rattle.job_plan.specs.declared.plan.ScanPlan.{ScanPlan}
use Rattle.job_plan.specs.declared.plan.Plan.{Plan}
use Rattle.job_plan.specs.Ranges.{IsPlan, IsScanPlan}
use Rattle.job_epochs.specs.Sizes.{size_of, sizes_of}
use Rattle.job_epochs.proofs.SizeLemmas.{sizes_of-IsJob}
use Rattle.run_sums.specs.Found.{IsOfScan, IsOfJob}

option_map-some : {A B : Type 0} (f : A → B) (o : Option A) (y : B) → option_map f o ≡ Some y → (x : A) × (o ≡ Some x) × (y ≡ f x)
option_map-some f None y is = cc
option_map-some {A} {B} f (Some x) y is = (x, refl, same_Some y (f x) (sym is))

pub job-scan : (plan : Plan) (job : JobSizes) (e : EpochPlan) → IsPlan plan → length plan.scans ≤ 8388608 → job ≡ sizes_of plan → IsEpoch job e → IsOfJob plan job e
job-scan plan job e ranges few cut fits =
    let inside : IsEpoch (sizes_of plan) e = subst (λ (j : JobSizes). IsEpoch j e) cut fits in
    let found = option_map-some (size_of plan) (slice_get plan.scans e.scan) inside.size (sym (slice_get-map (size_of plan) plan.scans e.scan) ∙ inside.scan) in
    let scan = found.0 in
    let samples : inside.size.samples ≡ scan.samples = ap (λ (s : ScanSize). s.samples) found.2 in
    record {
      fits = fits;
      scan = scan;
      of_scan = record {
        there = found.1;
        of_scan = record {
          of_plan = IsEpoch-IsOfPlan (sizes_of plan) e (sizes_of-IsJob plan ranges few) inside;
          inside = omega (arith, inside.to, samples);
          products = inside.products ∙ ap (λ (s : ScanSize). s.products) found.2;
          baselines = inside.baselines ∙ ap (λ (s : ScanSize). s.baselines) found.2;
          lags = inside.lags;
        };
        ranges = subst (IsScanPlan plan) (get_or_from_slice_get plan.scans e.scan scan scan found.1) (ranges.scans e.scan scan (slice_get_within plan.scans e.scan scan found.1));
      };
    }

-- an epoch is of one scan
pub scan-one : (plan : Plan) (a b : ScanPlan) (e : EpochPlan) → IsOfScan plan a e → IsOfScan plan b e → a ≡ b
scan-one plan a b e one other = same_Some a b (sym one.there ∙ other.there)
