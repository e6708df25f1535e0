-- The scans of a plan.
use Rattle.std.specs.Int.{div_ceil}
use Rattle.std.proofs.Common.{◌≡◌, sym, subst, ℕ, ◌*◌, ◌^◌, ◌<◌, ◌≤◌, Bool, true, nat_lt, List, length, map, filter, All, get_or, arith}
use Rattle.std.proofs.lemmas.Bool.{ltb-true}
use Rattle.std.proofs.lemmas.List.{length-map}
use Rattle.std.proofs.lemmas.List.Elements.{All-map, All-filter, filter_passes}
use Rattle.num_time.specs.Times.{IsSecond}
use Rattle.corr_model.specs.Delay.{has_model, has_clock}
use Rattle.scan_list.specs.declared.scan.Scan.{Scan}
use Rattle.scan_list.specs.Sound.{IsScan}
use Rattle.job_plan.specs.declared.plan.ScanPlan.{ScanPlan}
use Rattle.job_plan.specs.Ranges.{IsScanPlan}
use Rattle.job_text.specs.Job.{JobFields}
use Rattle.job_join.specs.Standing.{stands_in}
use Rattle.job_join.specs.Spans.{samples_of}
use Rattle.job_join.specs.Modelled.{model_in}
use Rattle.job_join.specs.Limits.{baselines_in}
use Rattle.job_join.specs.Joined.{scan_plan, product_plan, plan_by}
use Rattle.job_join.proofs.RangesBaselines.{baselines_in-rising, baselines_in-few}
use Rattle.job_join.proofs.RangesStands.{stands-rising, stands-few}
use Rattle.job_join.proofs.RangesRates.{samples-from_seconds}
use Rattle.job_join.proofs.RangesParts.{stays-there, stays-in_order, baselines-there}
use Rattle.job_join.proofs.RangesModelled.{second-same, modelled-there}

-- what a scan that is taken has of a job that is not refused
pub record IsTaken (job : JobFields) (rate : ℕ) (scan : Scan) : Type 0 where
  pub sound : IsScan scan
  pub samples : samples_of job rate scan ≤ 2 ^ 40
  pub seconds : div_ceil (samples_of job rate scan) rate ≤ 2 ^ 27
  pub cells : length (baselines_in job scan) * length job.products * job.lags ≤ 4194304
  pub models : All (λ s. has_model (model_in job rate scan s.station) (samples_of job rate scan) ≡ true) (stands_in job scan)
  pub clocks : All (λ s. has_clock (model_in job rate scan s.station) (samples_of job rate scan) ≡ true) (stands_in job scan)

module _ (job : JobFields) (rate : ℕ) (channels : List (List ℕ)) (scans : List Scan) (some : 0 < rate) (few : length job.stations ≤ 32) where
  scan-there : (scan : Scan) → IsTaken job rate scan → nat_lt 0 (length (baselines_in job scan)) ≡ true
      → IsScanPlan (plan_by job rate channels scans) (scan_plan job rate channels scan)
  scan-there scan is has = record {
    name = (is.sound.named, is.sound.short);
    second = subst IsSecond (sym (second-same scan.second is.sound.second)) is.sound.second;
    samples = is.samples;
    seconds = samples-from_seconds (samples_of job rate scan) rate (2 ^ 27) some is.seconds;
    stays = stays-there job rate channels scans scan is.sound.passes;
    in_order = stays-in_order job rate channels scan;
    some_baseline = ltb-true 0 (length (baselines_in job scan)) has;
    few_baselines = baselines_in-few job scan (stands-rising job scan) (omega (arith, stands-few job scan));
    baselines = baselines-there job rate channels scan;
    rising = baselines_in-rising job scan (stands-rising job scan);
    cells = subst (λ n. length (baselines_in job scan) * n * job.lags ≤ 4194304) (sym (length-map job.products (product_plan channels))) is.cells;
    modelled = modelled-there job rate channels scans scan is.sound.second is.models is.clocks;
  }

  -- of the scans that are taken those that have a baseline are the plan's
  pub scans-there : All (IsTaken job rate) scans
      → All (IsScanPlan (plan_by job rate channels scans)) (filter (λ (scan : ScanPlan). nat_lt 0 (length scan.baselines)) (map (scan_plan job rate channels) scans))
  scans-there all = λ k d less.
      All-filter has_some IfSome_baseline plans (All-map IfSome_baseline (scan_plan job rate channels) scans (λ i scan within. scan-there (get_or scans i scan) (all i scan within))) k d less
      (filter_passes has_some plans k d less)
    where
      has_some : ScanPlan → Bool
      has_some scan = nat_lt 0 (length scan.baselines)

      IfSome_baseline : ScanPlan → Type 0
      IfSome_baseline scan = has_some scan ≡ true → IsScanPlan (plan_by job rate channels scans) scan

      plans : List ScanPlan
      plans = map (scan_plan job rate channels) scans
