-- The job of a generated sample: its files, and what it comes to.
use Rattle.std.specs.Prelude.{ℕ, List, [], ◌∷◌, codes, None, Ok, Err}
use Rattle.corr_model.specs.Files.{Files}
use Rattle.mem_devices.specs.MemShelfState.{bytes_under}
use Rattle.job_plan.specs.declared.plan.Plan.{Plan}
use Rattle.sample_gen.specs.Frames.{recording_of}
use Rattle.sample_gen.specs.Job.{job_of}
use Rattle.run_notes.specs.Answers.{Answer}
use Rattle.run_notes.specs.Refusals.{Outcomes}
use Rattle.run_ready.specs.Outcome.{PlanOf}

-- the files of a sample: its job and four recordings
abbrev pub sample_files : ℕ → ℕ → List (List ℕ × List ℕ)
sample_files seed seconds =
    (codes "job", job_of seconds)
    ∷ (codes "s0.vdif", recording_of seed seconds 0)
    ∷ (codes "s1.vdif", recording_of seed seconds 1)
    ∷ (codes "s2.vdif", recording_of seed seconds 2)
    ∷ (codes "s3.vdif", recording_of seed seconds 3)
    ∷ []

-- what stands under each name
abbrev pub sample_shelf : ℕ → ℕ → Files
sample_shelf seed seconds = bytes_under (sample_files seed seconds)

-- what the job comes to
abbrev pub SampleOf : ℕ → ℕ → Outcomes Plan
SampleOf seed seconds = PlanOf (sample_shelf seed seconds) (codes "job") None None

-- the job comes to a plan, and no answer refuses it
pub record ComesToAPlan (seed seconds : ℕ) : Type 0 where
  pub plan : Plan
  pub outcome : SampleOf seed seconds (Ok plan)
  pub no_answer : (answer : Answer) → SampleOf seed seconds (Err answer) → ⊥
