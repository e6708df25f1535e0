-- The cells of the work's pairs, by their places.
use Rattle.std.specs.Prelude.{IfSome, if◌then◌else◌}
use Rattle.std.proofs.Common.{◌≡◌, ℕ, ◌-◌, ◌*◌, ◌/◌, ◌%◌, ◌≤◌, ◌<◌, ◌==◌, Bool, true, false, ℤ, length, get_or, Option, Some, None, sym, subst, arith, All}
use Rattle.std.proofs.lemmas.Nat.{mul-le}
use Rattle.corr_model.specs.declared.cell.Cell.{Cell}
use Rattle.corr_model.specs.declared.cell.Pair.{Pair}
use Rattle.corr_model.specs.Cell.{Value, Samples}
use Rattle.corr_model.specs.Lags.{lag_of}
use Rattle.corr_model.proofs.CellLemmas.{IsGrown}
use Rattle.bit_planes.specs.Planes.{PlanesFields, plane_value}
use Rattle.lag_kernel.specs.Planes.{plane_samples}
use Rattle.station_stream.specs.Stream.{AreLevelled}
use Rattle.pulsar_bins.specs.Cells.{bin_cell_in}
use Rattle.epoch_run.specs.Binned.{PhaseFields, IsPhase, bins_of, bin_by}
use Rattle.epoch_run.specs.Planes.{planed}
use Rattle.epoch_run.specs.Amounts.{WorkFields, cells_of, cells_over}
use Rattle.epoch_run.specs.Levelled.{AllLevelled, IsWork}
use Rattle.epoch_run.proofs.BinnedCells.{AddsUp, AddsUp-bin_cell_in, All-bin_cells, get_or-bin_cells, length-bin_cells}

-- there is a bin, and there are few
pub bins-some : (samples : ℕ) (phase : Option PhaseFields) → IfSome phase (IsPhase samples) → 1 ≤ bins_of phase
bins-some samples None is = omega arith
bins-some samples (Some p) is = omega (arith, is.some)

pub bins-few : (samples : ℕ) (phase : Option PhaseFields) → IfSome phase (IsPhase samples) → bins_of phase ≤ 64
bins-few samples None is = omega arith
bins-few samples (Some p) is = is.few

-- planes of small values
pub AllLevelled-planes : (a b : PlanesFields) (z : Samples) (pair : Pair) → AllLevelled z
    → ((n : ℤ) → plane_value a n ≡ z pair.a pair.x n)
    → ((n : ℤ) → plane_value b n ≡ z pair.b pair.y n)
    → AllLevelled (plane_samples a b)
AllLevelled-planes a b z pair all first second station chan n = by (station == 0)
  where
    by : (t : Bool) → IfSome (if t then plane_value a n else plane_value b n) AreLevelled
    by true = subst (λ (v : Value). IfSome v AreLevelled) (sym (first n)) (all pair.a pair.x n)
    by false = subst (λ (v : Value). IfSome v AreLevelled) (sym (second n)) (all pair.b pair.y n)

module _ (w : WorkFields) (is : IsWork w) where
  pub lags-some : 0 < w.epoch.lags
  lags-some = omega (arith, is.summed.epoch.lags.some)

  pub cells-some : 0 < cells_of w
  cells-some =
      let more : 1 * w.epoch.lags ≤ bins_of w.phase * w.epoch.lags =
      mul-le 1 w.epoch.lags (bins_of w.phase) w.epoch.lags (bins-some w.samples w.phase is.phase) (omega arith) in
      omega (arith, more, lags-some)

  pub cells-few : cells_of w ≤ 65536
  cells-few = mul-le (bins_of w.phase) w.epoch.lags 64 1024 (bins-few w.samples w.phase is.phase) is.summed.epoch.lags.within

  module _ (pair : Pair) where
    -- the cell at a place over a range of samples
    abbrev pub cell_over : ℕ → ℕ → ℕ → Cell
    cell_over k from to =
        bin_cell_in (bin_by w.phase) (k / w.epoch.lags) (planed w.planes) pair w.samples (lag_of w.epoch.lags (k % w.epoch.lags)) from to

    pub AddsUp-cell_over : (k : ℕ) → AddsUp (cell_over k)
    AddsUp-cell_over k =
        AddsUp-bin_cell_in (bin_by w.phase) (k / w.epoch.lags) (planed w.planes) pair w.samples (lag_of w.epoch.lags (k % w.epoch.lags)) is.levelled

    pub length-cells_over : (from to : ℕ) → length (cells_over w from to pair) ≡ cells_of w
    length-cells_over from to = length-bin_cells (bin_by w.phase) (bins_of w.phase) (planed w.planes) w.samples w.epoch.lags from to pair

    pub get_or-cells_over : (from to k : ℕ) (d : Cell) → k < cells_of w → get_or (cells_over w from to pair) k d ≡ cell_over k from to
    get_or-cells_over from to k d h =
        get_or-bin_cells (bin_by w.phase) (bins_of w.phase) (planed w.planes) w.samples w.epoch.lags from to pair k d lags-some h

    pub All-cells_over : (from to : ℕ) → All (λ c. IsGrown c (to - from)) (cells_over w from to pair)
    All-cells_over from to =
        All-bin_cells (bin_by w.phase) (bins_of w.phase) (planed w.planes) w.samples w.epoch.lags from to pair lags-some is.levelled
