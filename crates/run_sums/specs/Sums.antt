-- The sums of an epoch.
use Rattle.std.specs.Prelude.{◌≡◌, length, Option}
use Rattle.dev_traits.specs.Told.{WhereTold}
use Rattle.corr_model.specs.Files.{Files}
use Rattle.atomic_sums.specs.Sums.{EpochCells}
use Rattle.piece_plan.specs.declared.epoch.EpochPlan.{EpochPlan}
use Rattle.piece_plan.specs.Epochs.{cell_count}
use Rattle.job_plan.specs.declared.plan.Plan.{Plan}
use Rattle.job_epochs.specs.Sums.{epoch_sums}

-- sums of an epoch: a cell for each of its cells, and where the files are told, the cells of the definition
pub record AreSums (told : Option Files) (plan : Plan) (e : EpochPlan) (sums : EpochCells) : Type 0 where
  pub count : length sums.cells ≡ cell_count e
  pub cells : WhereTold told (λ files. sums.cells ≡ epoch_sums plan files e)
