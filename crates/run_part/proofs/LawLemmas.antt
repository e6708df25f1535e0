-- A part of a job comes to one outcome, and its plan is the job's.
use Rattle.std.proofs.Common.{◌≡◌, ◌∙◌, ℕ, List, Option, None, Some, Ok, subst, sym}
use Rattle.corr_model.specs.Files.{Files}
use Rattle.job_plan.specs.declared.plan.Plan.{Plan}
use Rattle.run_notes.specs.Answers.{Answer}
use Rattle.run_ready.specs.Steps.{Is, Then, unless}
use Rattle.run_ready.specs.Outcome.{JoinOf}
use Rattle.run_ready.specs.Recordings.{recordings_answer}
use Rattle.run_ready.proofs.LawLemmas.{AreOne, Is-one, Then-one}
use Rattle.run_part.specs.Outcome.{past_end, PartOf}

pub PartOf-one : (files : Files) (job : List ℕ) (vex : Option (List ℕ)) (epoch : Option ℕ) (to : ℕ)
    → AreOne (JoinOf files job vex epoch) → AreOne (PartOf files job vex epoch to)
PartOf-one files job vex epoch to joined =
    Then-one (JoinOf files job vex epoch)
    (λ (plan : Plan). Then (Is (unless (past_end plan to) plan)) (λ (within : Plan). Is (unless (recordings_answer files within.stations) within)))
    joined
    (λ plan. Then-one (Is (unless (past_end plan to) plan)) (λ (within : Plan). Is (unless (recordings_answer files within.stations) within))
    (Is-one (unless (past_end plan to) plan)) (λ within. Is-one (unless (recordings_answer files within.stations) within)))

-- what no answer refuses is the thing itself
unless-same : (o : Option Answer) (plan a : Plan) → Is (unless o plan) (Ok a) → a ≡ plan
unless-same None plan a is = cc
unless-same (Some answer) plan a is = absurd cc

pub PartOf-plan : (files : Files) (job : List ℕ) (vex : Option (List ℕ)) (epoch : Option ℕ) (to : ℕ) (plan : Plan)
    → PartOf files job vex epoch to (Ok plan) → JoinOf files job vex epoch (Ok plan)
PartOf-plan files job vex epoch to plan p =
    let same : plan ≡ p.0 =
    unless-same (recordings_answer files p.2.0.stations) p.2.0 plan p.2.2 ∙ unless-same (past_end p.0 to) p.0 p.2.0 p.2.1 in
    subst (λ (a : Plan). JoinOf files job vex epoch (Ok a)) (sym same) p.1
