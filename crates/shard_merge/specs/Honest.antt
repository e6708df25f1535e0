-- Kept epochs that are a job's, and have the sums of it.
use Rattle.std.specs.Prelude.{◌≡◌, List}
use Rattle.std.specs.List.{All}
use Rattle.corr_model.specs.Files.{Files}
use Rattle.piece_plan.specs.Epochs.{JobSizes, IsEpoch}
use Rattle.job_plan.specs.declared.plan.Plan.{Plan}
use Rattle.job_epochs.specs.Sums.{epoch_sums}
use Rattle.journal_image.specs.Image.{KeptEpoch}
use Rattle.checkpoint_journal.specs.Cells.{body_text}

-- each is an epoch of the job
abbrev pub EpochsFit : JobSizes → List KeptEpoch → Type 0
EpochsFit job kept = All (λ (k : KeptEpoch). IsEpoch job k.epoch) kept

-- the body of each is the text of the epoch's direct sums
abbrev pub AreHonest : Plan → Files → List KeptEpoch → Type 0
AreHonest plan files kept = All (λ (k : KeptEpoch). k.body ≡ body_text (epoch_sums plan files k.epoch)) kept
