-- What is found of an integration while shards are compared one after another.
use Rattle.std.specs.Prelude.{◌≡◌, ◌<◌, ℕ, true, false, if◌then◌else◌, List, [], ◌∷◌, ◌++◌, map, flat_map, drop, Option, None, Some, option_map}
use Rattle.std.specs.List.{range_with_len, enumerate_from}
use Rattle.dev_traits.specs.Told.{WhereTold}
use Rattle.corr_model.specs.Files.{Files}
use Rattle.corr_model.specs.declared.cell.Cell.{Cell}
use Rattle.piece_plan.specs.declared.job.ScanSize.{ScanSize}
use Rattle.piece_plan.specs.Epochs.{JobSizes, integration_count}
use Rattle.journal_image.specs.Image.{KeptEpoch}
use Rattle.shard_merge.specs.Covers.{covers, epochs_of_kept, shard_cells, covering}
use Rattle.shard_merge.specs.Verdict.{Difference, first_difference}
use Rattle.shard_merge.specs.declared.shard.Shard.{Shard}
use Rattle.shard_merge.specs.Reading.{AreReadFrom}
use Rattle.shard_merge.specs.declared.comparison.Place.{Place}
use Rattle.shard_merge.specs.declared.comparison.Found.{Found}

-- the place at which cells differ, of a struct that holds it
abbrev pub as_difference : Place → Difference
as_difference d = record { at = d.at; first = d.first; other = d.other }

-- so many integrations of a scan from one on
abbrev pub scan_places : ℕ → ℕ → ℕ → List (ℕ × ℕ)
scan_places number from count = map (λ (m : ℕ). (number, m)) (range_with_len from count)

-- the cells of those shards that cover an integration, with one more shard
abbrev pub with_shard : JobSizes → ℕ → ℕ → List KeptEpoch → List (List Cell) → List (List Cell)
with_shard job number m kept cells =
    if covers job number m (epochs_of_kept kept) then cells ++ (shard_cells job number m kept ∷ []) else cells

-- a difference that is there is at a cell of an integration of this width
abbrev pub IsWithin : ℕ → Option Place → Type 0
IsWithin width None = Unit {0}
IsWithin width (Some d) = d.at < width

-- what is found in the cells of those shards that cover an integration: the first one's, and where another one differs from it
abbrev pub Stands : Found → List Cell → List (List Cell) → Type 0
Stands found first [] = (found.some ≡ false) × (found.least ≡ None)
Stands found first (c ∷ cells) = (found.some ≡ true) × (first ≡ c) × (option_map as_difference found.least ≡ first_difference c cells)

-- the integrations of a job from the scan of a number on
abbrev pub job_places : JobSizes → ℕ → List (ℕ × ℕ)
job_places job number =
    flat_map
    (λ (s : ℕ × ScanSize). map (λ (m : ℕ). (s.0, m)) (range_with_len s.1.first (integration_count job s.1)))
    (enumerate_from number (drop number job.scans))

-- the cells of those images that cover an integration
abbrev pub cells_of : JobSizes → ℕ → ℕ → List (List KeptEpoch) → List (List Cell)
cells_of job number m keeps = map (shard_cells job number m) (covering job number m keeps)

-- a fact about what some shards keep, where the shelf's files are told
abbrev pub Knows : Option Files → JobSizes → List Shard → (List (List KeptEpoch) → Type 0) → Type 0
Knows told job shards fact =
    WhereTold told (λ files. (id : List ℕ) (keeps : List (List KeptEpoch)) → AreReadFrom files id job shards keeps → fact keeps)
