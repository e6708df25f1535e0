-- The lines of the commands that look at a job.
use Rattle.std.specs.Prelude.{ℕ, List, [], ◌∷◌, ◌++◌, length, map, flat_map, codes, decimal}
use Rattle.corr_model.specs.Files.{Files, bytes_under}
use Rattle.corr_model.specs.Slots.{station_slots}
use Rattle.plan_places.specs.Walk.{epochs_by}
use Rattle.frame_index.specs.declared.counts.Counts.{Counts}
use Rattle.frame_index.specs.Counted.{counts_of}
use Rattle.job_plan.specs.declared.plan.StationPlan.{StationPlan}
use Rattle.job_plan.specs.declared.plan.Plan.{Plan}
use Rattle.job_epochs.specs.Sizes.{sizes_of}

-- a word and a number, with a space before the word
abbrev pub numbered : List ℕ → ℕ → List ℕ
numbered word n = codes " " ++ word ++ codes " " ++ decimal n

-- the line of a station: its key and the counts of its slots
abbrev pub counts_line : List ℕ → Counts → List ℕ
counts_line key counts =
    codes "station " ++ key
    ++ numbered (codes "slots") counts.slots
    ++ numbered (codes "doubled") counts.doubled
    ++ numbered (codes "invalid") counts.invalid
    ++ numbered (codes "foreign") counts.foreign
    ++ numbered (codes "late") counts.late
    ++ 10 ∷ []

abbrev pub station_line : Files → StationPlan → List ℕ
station_line files s =
    counts_line s.key (counts_of s.shape (station_slots s.shape.frame_bytes (map (bytes_under files) s.files)))

-- how many scans are correlated, how many epochs of a length they have, and a line for each station
unfoldable pub check_text : Plan → ℕ → Files → List ℕ
check_text plan epoch files =
    codes "scans " ++ decimal (length plan.scans) ++ 10 ∷ []
    ++ codes "epochs " ++ decimal (length (epochs_by (sizes_of plan) epoch)) ++ 10 ∷ []
    ++ flat_map (station_line files) plan.stations

-- how many epochs are kept, and of how many
abbrev pub kept_line : ℕ → ℕ → List ℕ
kept_line kept epochs = decimal kept ++ codes " of " ++ decimal epochs ++ codes " epochs kept" ++ 10 ∷ []

-- a part of a job that is summed, by the numbers of its first integration and of the one behind its last
abbrev pub shard_line : ℕ → ℕ → List ℕ
shard_line from to = codes "shard " ++ decimal from ++ codes " " ++ decimal to ++ codes " done" ++ 10 ∷ []
