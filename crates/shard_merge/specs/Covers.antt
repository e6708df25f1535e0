-- Which integrations some kept epochs cover, and the cells of those.
use Rattle.std.specs.Prelude.{ℕ, ◌*◌, ◌==◌, ◌&&◌, Bool, false, List, [], ◌∷◌, map, filter, replicate, slice_get}
use Rattle.std.specs.Option.{option_map_or}
use Rattle.corr_model.specs.declared.cell.Cell.{Cell}
use Rattle.corr_model.specs.Cell.{no_cell}
use Rattle.piece_plan.specs.declared.job.ScanSize.{ScanSize}
use Rattle.piece_plan.specs.declared.epoch.EpochPlan.{EpochPlan}
use Rattle.piece_plan.specs.Epochs.{JobSizes, integration_at}
use Rattle.job_epochs.specs.Added.{add_cells, is_of}
use Rattle.checkpoint_journal.specs.Cells.{body_cells}
use Rattle.journal_image.specs.Image.{KeptEpoch}

-- epochs that follow one another from one sample to another
abbrev pub follow : ℕ → ℕ → List EpochPlan → Bool
follow at end [] = at == end
follow at end (e ∷ epochs) = (e.from == at) && follow e.to end epochs

-- epochs cover integration m of the scan of a number where those of them that are its own go through it, from its first sample to its last
abbrev pub covers : JobSizes → ℕ → ℕ → List EpochPlan → Bool
covers job number m epochs =
    option_map_or
    (λ (size : ScanSize). follow (integration_at job size m).from (integration_at job size m).to (filter (is_of number m) epochs))
    (slice_get job.scans number) false

-- the epochs of some kept ones
abbrev pub epochs_of_kept : List KeptEpoch → List EpochPlan
epochs_of_kept kept = map (λ (k : KeptEpoch). k.epoch) kept

-- how many cells an integration of a scan has
abbrev pub width_at : JobSizes → ℕ → ℕ
width_at job number = option_map_or (λ (size : ScanSize). size.products * size.baselines * job.lags) (slice_get job.scans number) 0

-- what the cells of some kept epochs add up to, with wrap at 64 bits
abbrev pub added : List Cell → List KeptEpoch → List Cell
added sum [] = sum
added sum (k ∷ kept) = added (add_cells sum (body_cells k.body)) kept

-- the kept epochs of integration m of the scan of a number
abbrev pub kept_in : ℕ → ℕ → List KeptEpoch → List KeptEpoch
kept_in number m kept = filter (λ (k : KeptEpoch). is_of number m k.epoch) kept

-- the cells of an integration: what those of its kept epochs add up to
abbrev pub shard_cells : JobSizes → ℕ → ℕ → List KeptEpoch → List Cell
shard_cells job number m kept = added (replicate (width_at job number) no_cell) (kept_in number m kept)

-- of the images of some shards, by the epochs that each keeps, those that cover the integration
abbrev pub covering : JobSizes → ℕ → ℕ → List (List KeptEpoch) → List (List KeptEpoch)
covering job number m keeps = filter (λ (kept : List KeptEpoch). covers job number m (epochs_of_kept kept)) keeps
