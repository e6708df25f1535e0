-- A job and a text of phases come to one outcome.
use Rattle.std.proofs.Common.{ℕ, List, Option, None}
use Rattle.corr_model.specs.Files.{Files}
use Rattle.job_plan.specs.declared.plan.Plan.{Plan}
use Rattle.pulsar_bins.specs.Answer.{bins_in}
use Rattle.run_notes.specs.declared.measure.Measure.TheVariants.{Phase}
use Rattle.run_notes.specs.Answers.{bins_answer}
use Rattle.run_ready.specs.Steps.{Is, Then, answered, unless}
use Rattle.run_ready.specs.Outcome.{JoinOf, text_under}
use Rattle.run_ready.specs.Recordings.{recordings_answer}
use Rattle.run_ready.proofs.LawLemmas.{AreOne, Is-one, Then-one}
use Rattle.run_bins.specs.Outcome.{uncovered, too_many_cells, BinsUnder, BinsOf}

BinsUnder-one : (files : Files) (name : List ℕ) (plan : Plan) → AreOne (BinsUnder files name plan)
BinsUnder-one files name plan =
    Then-one (Is (text_under files name Phase 65536)) (λ text. Then (Is (answered bins_answer (bins_in text))) (λ bins. Is (unless (uncovered plan bins) bins)))
    (Is-one (text_under files name Phase 65536))
    (λ text. Then-one (Is (answered bins_answer (bins_in text))) (λ bins. Is (unless (uncovered plan bins) bins))
    (Is-one (answered bins_answer (bins_in text))) (λ bins. Is-one (unless (uncovered plan bins) bins)))

pub BinsOf-one : (files : Files) (job : List ℕ) (vex : Option (List ℕ)) (phase : List ℕ) → AreOne (JoinOf files job vex None) → AreOne (BinsOf files job vex phase)
BinsOf-one files job vex phase joined =
    Then-one (JoinOf files job vex None)
    (λ plan. Then (BinsUnder files phase plan)
    (λ bins. Then (Is (unless (too_many_cells plan bins) bins)) (λ within. Is (unless (recordings_answer files plan.stations) (record { plan = plan; bins = within })))))
    joined
    (λ plan. Then-one (BinsUnder files phase plan)
    (λ bins. Then (Is (unless (too_many_cells plan bins) bins)) (λ within. Is (unless (recordings_answer files plan.stations) (record { plan = plan; bins = within }))))
    (BinsUnder-one files phase plan)
    (λ bins. Then-one (Is (unless (too_many_cells plan bins) bins)) (λ within. Is (unless (recordings_answer files plan.stations) (record { plan = plan; bins = within })))
    (Is-one (unless (too_many_cells plan bins) bins))
    (λ within. Is-one (unless (recordings_answer files plan.stations) (record { plan = plan; bins = within })))))
