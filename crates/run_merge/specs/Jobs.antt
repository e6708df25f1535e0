-- Jobs with the journals of their parts.
use Rattle.std.specs.Prelude.{ℕ, List, Option, Ok}
use Rattle.corr_model.specs.Files.{Files}
use Rattle.journal_image.specs.Image.{KeptEpoch}
use Rattle.shard_merge.specs.Reading.{AreReadFrom}
use Rattle.run_merge.specs.declared.job.MergeJob.{MergeJob}
use Rattle.run_merge.specs.Outcome.{MergeOf}

-- what the job and the journals of these names come to, which keep these epochs
pub record IsMergeOf (files : Files) (job : List ℕ) (vex : Option (List ℕ)) (names : List (List ℕ)) (m : MergeJob) (keeps : List (List KeptEpoch)) : Type 0 where
  pub read : AreReadFrom files m.survey.identity m.survey.epochs m.shards.items keeps
  pub outcome : MergeOf files job vex names (Ok (record { plan = m.survey.plan; keeps = keeps }))
