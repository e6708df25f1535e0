-- Journals of a job's parts, by their names.
use Rattle.std.specs.Prelude.{◌≡◌, ℕ, List, Some, Ok}
use Rattle.dev_traits.specs.Files.{size_of}
use Rattle.corr_model.specs.Files.{Files}
use Rattle.piece_plan.specs.Epochs.{JobSizes}
use Rattle.journal_image.specs.Image.{KeptEpoch}
use Rattle.shard_merge.specs.declared.shard.Shard.{Shard}
use Rattle.shard_merge.specs.Reading.{AreReadFrom}
use Rattle.run_merge.specs.Outcome.{ShardsOf}

-- the length of the file of a name
abbrev pub IsSizeOf : Files → List ℕ → ℕ → Type 0
IsSizeOf files name size = size_of (files name) ≡ Some size

-- shards that were read from the files of these names, which keep these epochs
pub record AreShardsOf (files : Files) (id : List ℕ) (job : JobSizes) (names : List (List ℕ)) (shards : List Shard) (keeps : List (List KeptEpoch)) : Type 0 where
  pub read : AreReadFrom files id job shards keeps
  pub outcome : ShardsOf files id job names (Ok keeps)
