-- What the files of a part of a job come to, step by step.
use Rattle.std.proofs.Common.{◌≡◌, ℕ, List, Option, Some, None, Ok, sym, ap}
use Rattle.corr_model.specs.Files.{Files}
use Rattle.dev_traits.specs.Told.{WhereTold}
use Rattle.job_plan.specs.declared.plan.Plan.{Plan}
use Rattle.run_notes.specs.declared.refusal.Refusal.{Refusal}
use Rattle.run_notes.specs.Answers.{Answer}
use Rattle.run_notes.specs.Refusals.{Outcomes, IsCause}
use Rattle.run_ready.specs.Steps.{Is, Then, unless}
use Rattle.run_ready.specs.Due.{IsDue}
use Rattle.run_ready.specs.Stage.{IsOfFiles}
use Rattle.run_ready.specs.Outcome.{JoinOf}
use Rattle.run_ready.specs.Recordings.{recordings_answer}
use Rattle.run_ready.proofs.StepLemmas.{IsCause-first, IsCause-next, IsCause-unless}
use Rattle.run_part.specs.Outcome.{past_end, PartOf}

-- the outcomes behind a plan within which the range ends, and behind a plan
abbrev recordings_behind : Files → Plan → Outcomes Plan
recordings_behind files within = Is (unless (recordings_answer files within.stations) within)

abbrev end_behind : Files → ℕ → Plan → Outcomes Plan
end_behind files to plan = Then (Is (unless (past_end plan to) plan)) (recordings_behind files)

module _ (job : List ℕ) (vex : Option (List ℕ)) (epoch : Option ℕ) (to : ℕ) (r : Refusal) (stage : IsOfFiles r) where
  pub job-refused : (told : Option Files) → WhereTold told (λ files. IsCause r (JoinOf files job vex epoch))
      → WhereTold told (λ files. IsCause r (PartOf files job vex epoch to))
  job-refused None cause = tt
  job-refused (Some files) cause = IsCause-first r (JoinOf files job vex epoch) (end_behind files to) stage cause

  pub end-refused : (told : Option Files) (plan : Plan) → WhereTold told (λ files. JoinOf files job vex epoch (Ok plan))
      → IsCause r (Is (unless (past_end plan to) plan))
      → WhereTold told (λ files. IsCause r (PartOf files job vex epoch to))
  end-refused None plan is cause = tt
  end-refused (Some files) plan is cause =
      IsCause-next r (JoinOf files job vex epoch) (end_behind files to) plan stage is
      (IsCause-first r (Is (unless (past_end plan to) plan)) (recordings_behind files) stage cause)

  pub recordings-refused : (told : Option Files) (plan : Plan) → WhereTold told (λ files. JoinOf files job vex epoch (Ok plan))
      → past_end plan to ≡ None
      → WhereTold told (λ files. IsDue r (recordings_answer files plan.stations))
      → WhereTold told (λ files. IsCause r (PartOf files job vex epoch to))
  recordings-refused None plan is within due = tt
  recordings-refused (Some files) plan is within due =
      IsCause-next r (JoinOf files job vex epoch) (end_behind files to) plan stage is
      (IsCause-next r (Is (unless (past_end plan to) plan)) (recordings_behind files) plan stage
      (sym (ap (λ (o : Option Answer). unless o plan) within))
      (IsCause-unless r (recordings_answer files plan.stations) plan due))
