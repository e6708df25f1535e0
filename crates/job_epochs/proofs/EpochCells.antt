-- The sums of an epoch of a plan, however long it is, are within 64 bits.
use Rattle.std.specs.Prelude.{slice_get, option_map}
use Rattle.std.specs.List.{range_with_len}
use Rattle.std.proofs.Common.{◌≡◌, ◌∙◌, refl, sym, subst, ℕ, ◌-◌, ◌^◌, ◌≤◌, ℤ, Option, Some, None, arith}
use Rattle.std.proofs.lemmas.Option.{slice_get-map}
use Rattle.corr_model.specs.declared.cell.Pair.{Pair}
use Rattle.corr_model.specs.Cell.{Samples, cell_in}
use Rattle.corr_model.specs.Files.{Files}
use Rattle.corr_model.specs.Lags.{lag_of}
use Rattle.corr_model.specs.Records.{IsCell}
use Rattle.piece_plan.specs.declared.epoch.EpochPlan.{EpochPlan}
use Rattle.piece_plan.specs.Epochs.{IsEpoch}
use Rattle.job_plan.specs.declared.plan.ScanPlan.{ScanPlan}
use Rattle.job_plan.specs.declared.plan.Plan.{Plan}
use Rattle.job_plan.specs.Ranges.{IsPlan}
use Rattle.job_plan.specs.Values.{rotated}
use Rattle.job_epochs.specs.Sizes.{size_of, sizes_of}
use Rattle.job_epochs.specs.Sums.{pair_of, lag_cells, baseline_cells, range_cells, epoch_sums}
use Rattle.job_epochs.proofs.EachLemmas.{Each, Each-flat_map, Each-map}
use Rattle.job_epochs.proofs.SmallValues.{rotated-small}
use Rattle.job_epochs.proofs.RangeCells.{AllSmall, part-fits, cell_in-IsGrown}
use Rattle.job_epochs.proofs.AddedLemmas.{epoch_sums-at}

-- what a thing comes from
pub map-back : {X Y : Type 0} (f : X → Y) (found : Option X) (y : Y) → option_map f found ≡ Some y
    → (x : X) × (found ≡ Some x) × (f x ≡ y)
map-back f None y is = absurd (cc)
map-back f (Some x) y is =
    let same : f x ≡ y = cc in
    (x, refl, same)

pub cell_in-IsCell : (z : Samples) (pair : Pair) (samples : ℕ) (lag : ℤ) (from to : ℕ) → AllSmall z → to - from ≤ 2 ^ 40
    → IsCell (cell_in z pair samples lag from to)
cell_in-IsCell z pair samples lag from to small few =
    let grown = cell_in-IsGrown z pair samples lag from to small in
    record {
      re = part-fits (cell_in z pair samples lag from to).re (to - from) grown.re_low grown.re_high few;
      im = part-fits (cell_in z pair samples lag from to).im (to - from) grown.im_low grown.im_high few;
      count = omega (arith, grown.count, few);
    }

range_cells-IsCell : (plan : Plan) (z : Samples) (scan : ScanPlan) (from to : ℕ) → AllSmall z → to - from ≤ 2 ^ 40
    → Each IsCell (range_cells plan z scan from to)
range_cells-IsCell plan z scan from to small few =
    Each-flat_map IsCell (baseline_cells plan z scan from to) plan.products
    (λ i p there. Each-flat_map IsCell (lag_cells plan z scan from to p) scan.baselines
    (λ j b here. Each-map IsCell (λ k. cell_in z (pair_of p b) scan.samples (lag_of plan.lags k) from to) (range_with_len 0 plan.lags)
    (λ k. cell_in-IsCell z (pair_of p b) scan.samples (lag_of plan.lags k) from to small few)))

pub epoch_sums-IsCell : (plan : Plan) (files : Files) (e : EpochPlan) → IsPlan plan → IsEpoch (sizes_of plan) e
    → Each IsCell (epoch_sums plan files e)
epoch_sums-IsCell plan files e is fits =
    let found : (scan : ScanPlan) × (slice_get plan.scans e.scan ≡ Some scan) × (size_of plan scan ≡ fits.size) =
    map-back (size_of plan) (slice_get plan.scans e.scan) fits.size
    (sym (slice_get-map (size_of plan) plan.scans e.scan) ∙ fits.scan) in
    subst (Each IsCell) (sym (epoch_sums-at plan files found.0 e found.1))
    (range_cells-IsCell plan (rotated plan files found.0) found.0 e.from e.to (rotated-small plan files found.0 is)
    (omega (arith, fits.short)))
