-- A journal that goes on: what it kept stays, and further epochs come behind.
use Rattle.std.specs.Prelude.{◌≡◌, ◌⊎◌, ℕ, List, ◌++◌, Option, Some}
use Rattle.std.specs.List.{All}
use Rattle.dev_traits.specs.Told.{WhereTold}
use Rattle.corr_model.specs.Files.{Files}
use Rattle.piece_plan.specs.declared.epoch.EpochPlan.{EpochPlan}
use Rattle.piece_plan.specs.Epochs.{JobSizes}
use Rattle.piece_plan.specs.Order.{place_of}
use Rattle.plan_places.specs.Walk.{cut_at}
use Rattle.job_plan.specs.declared.plan.Plan.{Plan}
use Rattle.job_epochs.specs.Sums.{epoch_sums}
use Rattle.checkpoint_journal.specs.Cells.{body_text}
use Rattle.journal_image.specs.Image.{KeptEpoch, Keeps}
use Rattle.checkpoint_journal.specs.Runs.{KeepsEpochs}

-- what the body of an epoch may be
abbrev pub BodyOf : Type 1
BodyOf = EpochPlan → List ℕ → Type 0

-- The epoch is the one of this length that begins where it does, or ends with its integration; and the body is the text of its
-- sums, where the files are told.
abbrev pub IsSummed : Option Files → Plan → JobSizes → ℕ → BodyOf
IsSummed told plan job epoch e body =
    (cut_at job epoch (place_of e) ≡ Some e) × WhereTold told (λ files. body ≡ body_text (epoch_sums plan files e))

-- the epochs that an image keeps, and then these, whose bodies are such
pub record GoesOn (Is : BodyOf) (id : List ℕ) (job : JobSizes) (v image : List ℕ) : Type 0 where
  pub old : List KeptEpoch
  pub more : List KeptEpoch
  pub before : Keeps id job v old
  pub after : Keeps id job image (old ++ more)
  pub each : All (λ (k : KeptEpoch). Is k.epoch k.body) more

-- an image that keeps just what the one before it kept, or that and more; one that says nothing comes from such a one alone
abbrev pub Extends : BodyOf → List ℕ → JobSizes → List ℕ → List ℕ → Type 0
Extends Is id job v image = KeepsEpochs id job v image ⊎ GoesOn Is id job v image
