-- The sums of an epoch: the cells of its samples (Thompson, Moran and Swenson, chapter 8).
use Rattle.std.specs.Prelude.{ℕ, List, [], map, flat_map, slice_get}
use Rattle.std.specs.List.{range_with_len}
use Rattle.std.specs.Option.{option_map_or}
use Rattle.corr_model.specs.declared.cell.Cell.{Cell}
use Rattle.corr_model.specs.declared.cell.Pair.{Pair}
use Rattle.corr_model.specs.Cell.{Samples, cell_in}
use Rattle.corr_model.specs.Files.{Files}
use Rattle.corr_model.specs.Lags.{lag_of}
use Rattle.piece_plan.specs.declared.epoch.EpochPlan.{EpochPlan}
use Rattle.piece_plan.specs.Epochs.{epochs_of}
use Rattle.job_plan.specs.declared.plan.ProductPlan.{ProductPlan}
use Rattle.job_plan.specs.declared.plan.BaselinePlan.{BaselinePlan}
use Rattle.job_plan.specs.declared.plan.ScanPlan.{ScanPlan}
use Rattle.job_plan.specs.declared.plan.Plan.{Plan}
use Rattle.job_plan.specs.Values.{rotated}
use Rattle.job_epochs.specs.Sizes.{sizes_of}

-- a product at a baseline
abbrev pub pair_of : ProductPlan → BaselinePlan → Pair
pair_of p b = record { a = b.a; x = p.x; b = b.b; y = p.y }

-- the cells of a product at a baseline, by rising lag, over the samples from `from` up to, not including, `to`
abbrev pub lag_cells : Plan → Samples → ScanPlan → ℕ → ℕ → ProductPlan → BaselinePlan → List Cell
lag_cells plan z scan from to p b =
    map (λ i. cell_in z (pair_of p b) scan.samples (lag_of plan.lags i) from to) (range_with_len 0 plan.lags)

-- those of a product at each baseline
abbrev pub baseline_cells : Plan → Samples → ScanPlan → ℕ → ℕ → ProductPlan → List Cell
baseline_cells plan z scan from to p = flat_map (lag_cells plan z scan from to p) scan.baselines

-- those of each product
abbrev pub range_cells : Plan → Samples → ScanPlan → ℕ → ℕ → List Cell
range_cells plan z scan from to = flat_map (baseline_cells plan z scan from to) plan.products

-- the sums of an epoch, from what the files hold
abbrev pub epoch_sums : Plan → Files → EpochPlan → List Cell
epoch_sums plan files e =
    option_map_or (λ (scan : ScanPlan). range_cells plan (rotated plan files scan) scan e.from e.to) (slice_get plan.scans e.scan) []

-- those of epoch i of the plan, none past the last
abbrev pub sums_of : Plan → Files → ℕ → List Cell
sums_of plan files i = option_map_or (epoch_sums plan files) (slice_get (epochs_of (sizes_of plan)) i) []
