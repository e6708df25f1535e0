-- What a part of a job comes to: the plan of the job, or the answer of the first thing that is wrong.
use Rattle.std.specs.Prelude.{ℕ, nat_lt, if◌then◌else◌, List, Option, None, Some}
use Rattle.corr_model.specs.Files.{Files}
use Rattle.piece_plan.specs.Limited.{integrations}
use Rattle.job_plan.specs.declared.plan.Plan.{Plan}
use Rattle.job_epochs.specs.Sizes.{sizes_of}
use Rattle.run_notes.specs.declared.measure.Measure.TheVariants.{Shard}
use Rattle.run_notes.specs.Answers.{Answer, limit_answer}
use Rattle.run_notes.specs.Refusals.{Outcomes}
use Rattle.run_ready.specs.Steps.{Is, Then, unless}
use Rattle.run_ready.specs.Outcome.{JoinOf}
use Rattle.run_ready.specs.Recordings.{recordings_answer}

-- a range that ends behind the job's last integration
abbrev pub past_end : Plan → ℕ → Option Answer
past_end plan to = if nat_lt (integrations (sizes_of plan)) to then Some (limit_answer Shard to) else None

-- Behind the job and its schedule comes the end of the range, and then the recordings.
abbrev pub PartOf : Files → List ℕ → Option (List ℕ) → Option ℕ → ℕ → Outcomes Plan
PartOf files job vex epoch to =
    Then (JoinOf files job vex epoch)
    (λ plan. Then (Is (unless (past_end plan to) plan)) (λ within. Is (unless (recordings_answer files within.stations) within)))
