-- The cells of an epoch by the bins of a pulse.
use Rattle.std.specs.Prelude.{◌≡◌, ℕ, ◌≤◌, List, map, flat_map, Option, Some, None, option_map}
use Rattle.std.specs.List.{range_with_len}
use Rattle.corr_model.specs.declared.cell.Cell.{Cell}
use Rattle.corr_model.specs.declared.cell.Pair.{Pair}
use Rattle.corr_model.specs.Cell.{Samples}
use Rattle.corr_model.specs.Delay.{DelayModel}
use Rattle.corr_model.specs.Lags.{lag_of}
use Rattle.delay_track.specs.Track.{model_of}
use Rattle.piece_plan.specs.declared.epoch.EpochPlan.{EpochPlan}
use Rattle.pulsar_bins.specs.Bin.{bin_at}
use Rattle.pulsar_bins.specs.Cells.{bin_cell_in}
use Rattle.epoch_run.specs.declared.phase.Phase.{Phase}

-- the phase of a pulse in a scan of so many samples, and into how many bins a turn is cut
pub record PhaseFields : Type 0 where
  pub model : DelayModel
  pub samples : ℕ
  pub count : ℕ

-- the phase of this scan, in 2 to 64 bins
pub record IsPhase (samples : ℕ) (p : PhaseFields) : Type 0 where
  pub scan : p.samples ≡ samples
  pub some : 2 ≤ p.count
  pub few : p.count ≤ 64

abbrev pub phase_of : Option Phase → Option PhaseFields
phase_of phase = option_map (λ p. record { model = model_of p.track; samples = p.track.samples; count = p.count }) phase

-- how many bins there are: one without a phase
abbrev pub bins_of : Option PhaseFields → ℕ
bins_of None = 1
bins_of (Some p) = p.count

-- the bin of each sample: without a phase all are of bin 0
abbrev pub bin_by : Option PhaseFields → ℕ → ℕ
bin_by None = λ n. 0
bin_by (Some p) = bin_at p.count p.model

-- the cells that a run of one bin is summed in before they are added to those of its bin: none without a phase
abbrev pub stretch_of : Option PhaseFields → ℕ → ℕ
stretch_of None lags = 0
stretch_of (Some p) lags = lags

-- the cells of a bin by rising lag, over the samples from `from` up to, not including, `to` of a pair
abbrev pub lag_cells : (ℕ → ℕ) → Samples → ℕ → ℕ → ℕ → ℕ → Pair → ℕ → List Cell
lag_cells bins z samples lags from to pair b =
    map (λ i. bin_cell_in bins b z pair samples (lag_of lags i) from to) (range_with_len 0 lags)

-- those of each bin, where `bins` gives the bin of each sample and there are so many
abbrev pub bin_cells : (ℕ → ℕ) → ℕ → Samples → ℕ → ℕ → ℕ → ℕ → Pair → List Cell
bin_cells bins count z samples lags from to pair =
    flat_map (lag_cells bins z samples lags from to pair) (range_with_len 0 count)

-- the sums of an epoch by bins: for each group, each bin and each rising lag the cell of its pair
abbrev pub bin_cells_in_epoch : Samples → List Pair → ℕ → EpochPlan → (ℕ → ℕ) → ℕ → List Cell
bin_cells_in_epoch z pairs samples e bins count = flat_map (bin_cells bins count z samples e.lags e.from e.to) pairs
