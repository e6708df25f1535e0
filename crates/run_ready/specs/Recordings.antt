-- The recordings of a plan's stations.
use Rattle.std.specs.Prelude.{ℕ, ◌/◌, nat_lt, if◌then◌else◌, List, [], ◌∷◌, length, map, flat_map, find, sum_by, is_none, Option, None, Some, option_map}
use Rattle.corr_model.specs.Files.{Files, bytes_under}
use Rattle.corr_model.specs.Slots.{slots_of}
use Rattle.frame_index.specs.Foreign.{foreign_field}
use Rattle.job_join.specs.declared.fault.Quantity.TheVariants.{Slots}
use Rattle.job_plan.specs.declared.plan.StationPlan.{StationPlan}
use Rattle.run_notes.specs.declared.measure.Measure.TheVariants.{Job as OfJob}
use Rattle.run_notes.specs.Answers.{Answer, no_file_answer, limit_answer, recording_answer}
use Rattle.run_ready.specs.Steps.{or_else}

-- the first file that is not there, station by station
abbrev pub missing_file : Files → List StationPlan → Option (List ℕ)
missing_file files stations = find (λ name. is_none (files name)) (flat_map (λ (s : StationPlan). s.files) stations)

-- how many slots a station has, and all stations
abbrev pub slot_count : Files → StationPlan → ℕ
slot_count files s = sum_by (λ name. length (bytes_under files name) / s.shape.frame_bytes) s.files

abbrev pub slot_total : Files → List StationPlan → ℕ
slot_total files stations = sum_by (slot_count files) stations

-- the slots of all stations are at most 2^26
abbrev pub too_many_slots : Files → List StationPlan → Option Answer
too_many_slots files stations =
    if nat_lt 67108864 (slot_total files stations) then Some (limit_answer (OfJob Slots) (slot_total files stations)) else None

-- a station that has slots, none of which agrees with its shape
abbrev pub foreign_answer : Files → StationPlan → Option Answer
foreign_answer files s =
    option_map (recording_answer s.key) (foreign_field s.shape (slots_of s.shape.frame_bytes (map (bytes_under files) s.files)))

-- the first of these
abbrev pub first_foreign : Files → List StationPlan → Option Answer
first_foreign files [] = None
first_foreign files (s ∷ stations) = or_else (foreign_answer files s) (first_foreign files stations)

-- what is wrong with the files of some stations: first that one is not there, then that they have too many slots
unfoldable pub files_answer : Files → List StationPlan → Option Answer
files_answer files stations = or_else (option_map no_file_answer (missing_file files stations)) (too_many_slots files stations)

-- what is wrong with their recordings: that, and then what they hold
unfoldable pub recordings_answer : Files → List StationPlan → Option Answer
recordings_answer files stations = or_else (files_answer files stations) (first_foreign files stations)
