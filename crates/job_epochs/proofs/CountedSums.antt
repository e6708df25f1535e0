-- An epoch of a plan is of one of its scans, and has as many sums as cells.
use Rattle.std.specs.Prelude.{slice_get, option_map}
use Rattle.std.specs.List.{range_with_len, enumerate_from}
use Rattle.std.proofs.Common.{◌≡◌, ◌∙◌, refl, sym, ap, subst, ℕ, ◌+◌, length, Option, Some, None, arith}
use Rattle.std.proofs.lemmas.Option.{slice_get-map}
use Rattle.corr_model.specs.Files.{Files}
use Rattle.piece_plan.specs.declared.job.ScanSize.{ScanSize}
use Rattle.piece_plan.specs.declared.epoch.EpochPlan.{EpochPlan}
use Rattle.piece_plan.specs.Epochs.{range_of, integration_count, integration_epochs, scan_epochs, epochs_of, cell_count}
use Rattle.job_plan.specs.declared.plan.ScanPlan.{ScanPlan}
use Rattle.job_plan.specs.declared.plan.Plan.{Plan}
use Rattle.job_plan.specs.Values.{rotated}
use Rattle.job_epochs.specs.Sizes.{size_of, sizes_of}
use Rattle.job_epochs.specs.Sums.{sums_of}
use Rattle.job_epochs.specs.Added.{width_of}
use Rattle.job_epochs.proofs.EachLemmas.{Each, Each-flat_map, Each-map, Each-enumerate}
use Rattle.job_epochs.proofs.RangeCells.{length-range_cells}
use Rattle.job_epochs.proofs.AddedLemmas.{sums_of-at, epoch_sums-at}

-- an epoch of a scan of a plan
pub record IsOfScan (plan : Plan) (e : EpochPlan) : Type 0 where
  pub scan : ScanPlan
  pub there : slice_get plan.scans e.scan ≡ Some scan
  pub products : e.products ≡ length plan.products
  pub baselines : e.baselines ≡ length scan.baselines
  pub lags : e.lags ≡ plan.lags

size-back : (plan : Plan) (found : Option ScanPlan) (size : ScanSize) → option_map (size_of plan) found ≡ Some size
    → (scan : ScanPlan) × (found ≡ Some scan) × (size ≡ size_of plan scan)
size-back plan None size is = absurd (cc)
size-back plan (Some scan) size is =
    let same : size ≡ size_of plan scan = cc in
    (scan, refl, same)

integration-IsOfScan : (plan : Plan) (number : ℕ) (size : ScanSize) (m : ℕ) → slice_get (sizes_of plan).scans number ≡ Some size
    → Each (IsOfScan plan) (integration_epochs (sizes_of plan) number size m)
unfolding integration_epochs
integration-IsOfScan plan number size m there =
    let found : (scan : ScanPlan) × (slice_get plan.scans number ≡ Some scan) × (size ≡ size_of plan scan) =
    size-back plan (slice_get plan.scans number) size (sym (slice_get-map (size_of plan) plan.scans number) ∙ there) in
    Each-map (IsOfScan plan) (range_of (sizes_of plan) number size m) _
    (λ r. record {
      scan = found.0;
      there = found.1;
      products = ap (λ (s : ScanSize). s.products) found.2;
      baselines = ap (λ (s : ScanSize). s.baselines) found.2;
      lags = refl;
    })

scan-IsOfScan : (plan : Plan) (number : ℕ) (size : ScanSize) → slice_get (sizes_of plan).scans number ≡ Some size
    → Each (IsOfScan plan) (scan_epochs (sizes_of plan) number size)
unfolding scan_epochs
scan-IsOfScan plan number size there =
    Each-flat_map (IsOfScan plan) (integration_epochs (sizes_of plan) number size)
    (range_with_len size.first (integration_count (sizes_of plan) size))
    (λ i m at. integration-IsOfScan plan number size m there)

pub epochs-IsOfScan : (plan : Plan) → Each (IsOfScan plan) (epochs_of (sizes_of plan))
unfolding epochs_of
epochs-IsOfScan plan =
    Each-flat_map (IsOfScan plan) (λ (s : ℕ × ScanSize). scan_epochs (sizes_of plan) s.0 s.1)
    (enumerate_from 0 (sizes_of plan).scans)
    (Each-enumerate (λ (s : ℕ × ScanSize). Each (IsOfScan plan) (scan_epochs (sizes_of plan) s.0 s.1)) 0 (sizes_of plan).scans
    (λ i size at.
    let here : i ≡ 0 + i = omega arith in
    subst (λ (n : ℕ). Each (IsOfScan plan) (scan_epochs (sizes_of plan) n size)) here (scan-IsOfScan plan i size at)))

width-is : (plan : Plan) (e : EpochPlan) (scan : ScanPlan) → e.products ≡ length plan.products
    → e.baselines ≡ length scan.baselines → e.lags ≡ plan.lags → width_of plan scan ≡ cell_count e
width-is plan e scan products baselines lags = rw (products, baselines, lags) refl

pub length-sums_of : (plan : Plan) (files : Files) (i : ℕ) (e : EpochPlan) → slice_get (epochs_of (sizes_of plan)) i ≡ Some e
    → length (sums_of plan files i) ≡ cell_count e
length-sums_of plan files i e there =
    let is : IsOfScan plan e = epochs-IsOfScan plan i e there in
    ap length (sums_of-at plan files i e there ∙ epoch_sums-at plan files is.scan e is.there)
    ∙ length-range_cells plan (rotated plan files is.scan) is.scan e.from e.to
    ∙ width-is plan e is.scan is.products is.baselines is.lags
