-- The identity of a job, which tells its journal from another job's.
use Rattle.std.specs.Prelude.{ℕ, List, [], length, map, flat_map, Option, None, Some}
use Rattle.corr_model.specs.Files.{Files, bytes_under}
use Rattle.job_plan.specs.declared.plan.StationPlan.{StationPlan}
use Rattle.job_plan.specs.declared.plan.Plan.{Plan}
use Rattle.checkpoint_journal.specs.Identity.{identity_of}

-- the text of a schedule, empty where there is none
abbrev pub schedule_text : Files → Option (List ℕ) → List ℕ
schedule_text files None = []
schedule_text files (Some vex) = bytes_under files vex

-- the lengths of the recordings of some stations, station by station and file by file
abbrev pub lengths_of : Files → List StationPlan → List ℕ
lengths_of files stations = map (λ name. length (bytes_under files name)) (flat_map (λ (s : StationPlan). s.files) stations)

-- the texts of the schedule and of the job with these names, and the lengths of the recordings
abbrev pub identity_under : Files → List ℕ → Option (List ℕ) → Plan → List ℕ
identity_under files job vex plan = identity_of (schedule_text files vex) (bytes_under files job) (lengths_of files plan.stations)
