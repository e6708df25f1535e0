-- The record file of a generated sample, and the text of its totals.
use Rattle.std.specs.Prelude.{◌≡◌, ℕ, List, ◌≤◌, length, Ok}
use Rattle.corr_model.specs.Files.{Files}
use Rattle.job_plan.specs.declared.plan.Plan.{Plan}
use Rattle.job_plan.specs.Ranges.{IsPlan}
use Rattle.job_plan.specs.Output.{head_of, plan_cells, output}
use Rattle.vis_records.specs.Content.{Content}
use Rattle.gen_summary.specs.Totals.{totals_text}
use Rattle.sample_job.specs.Sample.{sample_shelf, SampleOf}

-- the bytes are the record file of a plan that the job comes to
pub record IsSampled (seed seconds : ℕ) (bytes : List ℕ) : Type 0 where
  pub plan : Plan
  pub outcome : SampleOf seed seconds (Ok plan)
  pub ranges : IsPlan plan
  pub few : length plan.scans ≤ 8388608
  pub records : bytes ≡ output plan (sample_shelf seed seconds)

-- what the record file of a plan says
abbrev pub content_for : Plan → Files → Content
content_for plan files = record { head = head_of plan; cells = plan_cells plan files }

-- the totals of the record file of a sample's plan
abbrev pub sample_text : ℕ → ℕ → Plan → List ℕ
sample_text seed seconds plan =
    totals_text (content_for plan (sample_shelf seed seconds)) (length (output plan (sample_shelf seed seconds)))
