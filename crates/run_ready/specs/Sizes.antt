-- Files that are there or not, and their sizes.
use Rattle.std.specs.Prelude.{◌≡◌, ℕ, ◌^◌, ◌<◌, ◌≤◌, List, length, map, flat_map, sum_by, find, is_none, Option, None, Some, option_map, if◌then◌else◌}
use Rattle.std.specs.List.{All}
use Rattle.std.specs.Str.{IsUtf8}
use Rattle.corr_model.specs.Files.{Files}
use Rattle.frame_index.specs.declared.recording.FileRef.{FileRef}
use Rattle.frame_index.specs.Recording.{AreOnShelf, slot_total}
use Rattle.plan_places.specs.Walk.{epochs_by}
use Rattle.job_plan.specs.declared.plan.StationPlan.{StationPlan}
use Rattle.job_plan.specs.declared.plan.Plan.{Plan}
use Rattle.job_epochs.specs.Sizes.{sizes_of}
use Rattle.job_text.specs.Job.{StationFields}
use Rattle.run_notes.specs.Answers.{Answer, no_file_answer}
use Rattle.run_ready.specs.declared.recordings.StationFiles.{StationFiles}
use Rattle.run_ready.specs.Recordings.{missing_file}

-- a file that is not there
abbrev pub no_file : Files → List ℕ → Option Answer
no_file files name = if is_none (files name) then Some (no_file_answer name) else None

-- the first of these files that is not there
abbrev pub no_file_of : Files → List (List ℕ) → Option Answer
no_file_of files names = option_map no_file_answer (find (λ name. is_none (files name)) names)

-- the first file of these stations that is not there
abbrev pub no_file_for : Files → List StationPlan → Option Answer
no_file_for files stations = option_map no_file_answer (missing_file files stations)

-- A station whose files can be looked up and cut into slots: their names are texts, there are less than 2^32 of them, and its
-- frames have some length.
pub record HasFiles (s : StationPlan) : Type 0 where
  pub texts : All IsUtf8 s.files
  pub few : length s.files < 2 ^ 32
  pub frame : 0 < s.shape.frame_bytes

-- a station's files with their sizes, and how many slots they have by these
pub record IsSizedBy (s : StationPlan) (z : StationFiles) : Type 0 where
  pub names : map (λ (f : FileRef). f.name) z.files ≡ s.files
  pub few : length z.files < 2 ^ 32
  pub slots : z.slots ≡ slot_total s.shape z.files
  pub bound : z.slots < 2 ^ 96

-- the files of all stations stand on the shelf
abbrev pub AreShelved : List StationFiles → Files → Type 0
AreShelved sized files = All (λ (z : StationFiles). AreOnShelf z.files files) sized

-- the sizes of all files, station by station and file by file
abbrev pub sizes_in : List StationFiles → List ℕ
sizes_in sized = flat_map (λ (z : StationFiles). map (λ (f : FileRef). f.size) z.files) sized

-- the slots of all stations
abbrev pub slots_together : List StationFiles → ℕ
slots_together sized = sum_by (λ (z : StationFiles). z.slots) sized

-- less than 2^32 files
abbrev pub HasFewFiles : StationFields → Type 0
HasFewFiles s = length s.files < 2 ^ 32

-- a plan that has at most 2^32 epochs of a length
abbrev pub HasFewEpochs : Plan → ℕ → Type 0
HasFewEpochs plan epoch = length (epochs_by (sizes_of plan) epoch) ≤ 4294967296
