-- What a job and the journals of its parts come to: the job's plan and the epochs that each keeps, or the answer of the first thing that is
-- wrong.
use Rattle.std.specs.Prelude.{◌≡◌, ◌≤◌, ℕ, List, [], ◌∷◌, length, Option, None, option_map, Ok, Err}
use Rattle.corr_model.specs.Files.{Files, bytes_under}
use Rattle.piece_plan.specs.Epochs.{JobSizes}
use Rattle.job_plan.specs.declared.plan.Plan.{Plan}
use Rattle.job_plan.specs.Ranges.{IsPlan}
use Rattle.job_epochs.specs.Sizes.{sizes_of}
use Rattle.journal_image.specs.declared.difference.Differs.{Differs}
use Rattle.journal_image.specs.Image.{KeptEpoch}
use Rattle.shard_merge.specs.declared.fault.MergeFault.{MergeFault}
use Rattle.shard_merge.specs.declared.fault.MergeFault.TheVariants.{Read, Uncovered, Differs as TheyDiffer, Memory}
use Rattle.shard_merge.specs.Shards.{ShardKeeps, IsNoShard}
use Rattle.shard_merge.specs.Verdict.{verdict}
use Rattle.shard_merge.specs.Merged.{merged}
use Rattle.run_notes.specs.Answers.{Answer, memory_answer, not_shard_answer, uncovered_answer, differs_answer}
use Rattle.run_notes.specs.Refusals.{Outcomes}
use Rattle.run_ready.specs.Steps.{Is, Then, unless}
use Rattle.run_ready.specs.Sizes.{no_file_of}
use Rattle.run_ready.specs.Outcome.{SurveyOf}
use Rattle.run_ready.specs.Identities.{identity_under}

-- the plan of a job, and the epochs that each of some journals keeps
pub record Merge : Type 0 where
  pub plan : Plan
  pub keeps : List (List KeptEpoch)

-- the record file that they make together
abbrev pub merged_text : Merge → List ℕ
merged_text x = merged x.plan x.keeps

-- a plan all of whose numbers are in their ranges, with at most 2^23 scans
pub record IsRanged (plan : Plan) : Type 0 where
  pub ranges : IsPlan plan
  pub few : length plan.scans ≤ 8388608

-- the plan of a job, as far as the lengths of its recordings show, which is in its ranges
abbrev pub RangedOf : Files → List ℕ → Option (List ℕ) → Outcomes Plan
RangedOf files job vex (Ok plan) = SurveyOf files job vex None (Ok plan) × IsRanged plan
RangedOf files job vex (Err answer) = SurveyOf files job vex None (Err answer)

-- the epochs that the journal of a name keeps of a job with this identity, or the first place at which it is that of none of the job's parts
abbrev pub ShardOf : Files → List ℕ → JobSizes → List ℕ → Outcomes (List KeptEpoch)
ShardOf files id job name (Ok kept) = ShardKeeps id job (bytes_under files name) kept
ShardOf files id job name (Err answer) =
    (d : Differs) × IsNoShard id job (bytes_under files name) d × (answer ≡ not_shard_answer name d.at)

-- those of some journals, one behind the other
abbrev pub ShardsOf : Files → List ℕ → JobSizes → List (List ℕ) → Outcomes (List (List KeptEpoch))
ShardsOf files id job [] = Is (Ok [])
ShardsOf files id job (name ∷ names) =
    Then (ShardOf files id job name) (λ kept. Then (ShardsOf files id job names) (λ keeps. Is (Ok (kept ∷ keeps))))

-- the answer of journals that do not make a job together; there is none without a read or memory
abbrev pub merge_answer : MergeFault → Answer
merge_answer Read = memory_answer
merge_answer (Uncovered i) = uncovered_answer i
merge_answer (TheyDiffer d) = differs_answer d.integration d.group d.lag d.first d.other
merge_answer Memory = memory_answer

-- Behind the job and its schedule come the sizes of its recordings and those of the journals, then what each journal keeps, and then whether
-- each integration is covered and all that cover it agree.
abbrev pub MergeOf : Files → List ℕ → Option (List ℕ) → List (List ℕ) → Outcomes Merge
MergeOf files job vex names =
    Then (RangedOf files job vex)
    (λ plan. Then (Is (unless (no_file_of files names) plan))
    (λ within. Then (ShardsOf files (identity_under files job vex within) (sizes_of within) names)
    (λ keeps. Is (unless (option_map merge_answer (verdict (sizes_of within) keeps)) (record { plan = within; keeps = keeps })))))
