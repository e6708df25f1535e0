-- The record file that shards make together.
use Rattle.std.specs.Prelude.{ℕ, List, [], ◌∷◌}
use Rattle.corr_model.specs.Records.{vis_text}
use Rattle.job_plan.specs.declared.plan.Plan.{Plan}
use Rattle.job_plan.specs.Output.{head_of}
use Rattle.job_epochs.specs.Sizes.{sizes_of}
use Rattle.piece_plan.specs.Epochs.{JobSizes}
use Rattle.journal_image.specs.Image.{KeptEpoch}
use Rattle.vis_writer.specs.Cells.{CellsOf, all_cells}
use Rattle.shard_merge.specs.Covers.{shard_cells, covering}

-- the first of some images, one without an epoch where there is none
abbrev pub first_image : List (List KeptEpoch) → List KeptEpoch
first_image [] = []
first_image (kept ∷ keeps) = kept

-- the cells of an integration in the first image that covers it
abbrev pub merged_cells : JobSizes → List (List KeptEpoch) → CellsOf
merged_cells job keeps number m = shard_cells job number m (first_image (covering job number m keeps))

-- the plan's record file with these cells
unfoldable pub merged : Plan → List (List KeptEpoch) → List ℕ
merged plan keeps = vis_text (head_of plan) (all_cells (head_of plan) (merged_cells (sizes_of plan) keeps))
