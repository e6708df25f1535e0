-- The sums of an epoch, from the values of its scan (Thompson, Moran and Swenson, chapter 8).
use Rattle.std.specs.Prelude.{◌≡◌, ℕ, ◌*◌, ◌-◌, ◌≤◌, ◌^◌, List, length, map, flat_map}
use Rattle.std.specs.Int.{div_ceil}
use Rattle.std.specs.List.{range_with_len}
use Rattle.corr_model.specs.declared.cell.Cell.{Cell}
use Rattle.corr_model.specs.declared.cell.Pair.{Pair}
use Rattle.corr_model.specs.Cell.{Samples, cell_in}
use Rattle.corr_model.specs.Lags.{lag_of}
use Rattle.piece_plan.specs.declared.epoch.EpochPlan.{EpochPlan}
use Rattle.piece_plan.specs.Epochs.{IsOfPlan}

-- the cells of a pair of channels, by rising lag, over the samples from `from` up to, not including, `to`
abbrev pub pair_cells : Samples → ℕ → ℕ → ℕ → ℕ → Pair → List Cell
pair_cells z samples lags from to pair =
    map (λ i. cell_in z pair samples (lag_of lags i) from to) (range_with_len 0 lags)

-- the sums of an epoch: for each group its pair's cells
abbrev pub cells_in_epoch : Samples → List Pair → ℕ → EpochPlan → List Cell
cells_in_epoch z pairs samples e = flat_map (pair_cells z samples e.lags e.from e.to) pairs

-- the pieces in which an epoch is summed: each group's
abbrev pub pieces_in_epoch : EpochPlan → ℕ → ℕ
pieces_in_epoch e piece = e.products * e.baselines * div_ceil (e.to - e.from) piece

-- an epoch of a scan of so many samples, with a pair for each of its groups, that is cut into pieces of 64 to 4,194,304 samples
pub record IsSummed (pairs : List Pair) (samples : ℕ) (e : EpochPlan) (piece : ℕ) : Type 0 where
  pub epoch : IsOfPlan e
  pub inside : e.to ≤ samples
  pub scan : samples ≤ 2 ^ 40
  pub groups : length pairs ≡ e.products * e.baselines
  pub some : 64 ≤ piece
  pub most : piece ≤ 4194304
