-- What a job and a text of phases come to: the plan and the bins, or the answer of the first thing that is wrong.
use Rattle.std.specs.Prelude.{ℕ, nat_lt, Bool, List, [], find, slice_get, Option, None, option_map}
use Rattle.std.specs.Option.{option_map_or}
use Rattle.corr_model.specs.Files.{Files}
use Rattle.job_plan.specs.declared.plan.ScanPlan.{ScanPlan}
use Rattle.job_plan.specs.declared.plan.Plan.{Plan}
use Rattle.pulsar_bins.specs.Bins.{BinsFields}
use Rattle.pulsar_bins.specs.Answer.{bins_in}
use Rattle.pulsar_bins.specs.Scans.{no_phase}
use Rattle.bin_sums.specs.Binned.{bin_width}
use Rattle.run_notes.specs.declared.measure.Measure.TheVariants.{Phase, BinCells}
use Rattle.run_notes.specs.Answers.{Answer, limit_answer, bins_answer, no_phase_answer}
use Rattle.run_notes.specs.Refusals.{Outcomes}
use Rattle.run_ready.specs.Steps.{Is, Then, answered, unless}
use Rattle.run_ready.specs.Outcome.{JoinOf, text_under}
use Rattle.run_ready.specs.Recordings.{recordings_answer}
use Rattle.run_bins.specs.Texts.{BinPlan}

-- the name of a plan's scan
abbrev pub scan_name : Plan → ℕ → List ℕ
scan_name plan number = option_map_or (λ (scan : ScanPlan). scan.name) (slice_get plan.scans number) []

-- the first scan in which a sample has no phase
abbrev pub uncovered : Plan → BinsFields → Option Answer
uncovered plan bins = option_map (λ number. no_phase_answer (scan_name plan number)) (no_phase bins plan)

-- an integration of the scan has more than 4,194,304 cells
abbrev pub is_wide : Plan → BinsFields → ScanPlan → Bool
is_wide plan bins scan = nat_lt 4194304 (bin_width plan bins scan)

-- the first scan whose integrations have too many cells
abbrev pub too_many_cells : Plan → BinsFields → Option Answer
too_many_cells plan bins = option_map (λ scan. limit_answer BinCells (bin_width plan bins scan)) (find (is_wide plan bins) plan.scans)

-- The text of phases under a name: it is there, it has at most 65,536 bytes, and bins that each scan of the plan has a phase for.
abbrev pub BinsUnder : Files → List ℕ → Plan → Outcomes BinsFields
BinsUnder files name plan =
    Then (Is (text_under files name Phase 65536))
    (λ text. Then (Is (answered bins_answer (bins_in text))) (λ bins. Is (unless (uncovered plan bins) bins)))

-- Behind the job and its schedule, with epochs of the job's own length, comes the text of phases, then the limit on cells, and then the recordings.
abbrev pub BinsOf : Files → List ℕ → Option (List ℕ) → List ℕ → Outcomes BinPlan
BinsOf files job vex phase =
    Then (JoinOf files job vex None)
    (λ plan. Then (BinsUnder files phase plan)
    (λ bins. Then (Is (unless (too_many_cells plan bins) bins))
    (λ within. Is (unless (recordings_answer files plan.stations) (record { plan = plan; bins = within })))))
