-- What is wrong with some shards as the images of one job: the first integration that none of them covers, or in which two of them differ.
use Rattle.std.specs.Prelude.{◌≡◌, ⊤, ℕ, ◌+◌, ◌/◌, ◌%◌, ◌==◌, ◌&&◌, nat_lt, if◌then◌else◌, Bool, List, [], ◌∷◌, map, flat_map, fold, Option, None, Some, option_map, Result, Ok, Err}
use Rattle.std.specs.Ordering.{int_eq}
use Rattle.std.specs.List.{range_with_len, enumerate_from}
use Rattle.corr_model.specs.declared.cell.Cell.{Cell}
use Rattle.corr_model.specs.Lags.{lag_of}
use Rattle.piece_plan.specs.declared.job.ScanSize.{ScanSize}
use Rattle.piece_plan.specs.Epochs.{JobSizes, integration_count}
use Rattle.journal_image.specs.Image.{KeptEpoch}
use Rattle.shard_merge.specs.declared.fault.CellsDiffer.{CellsDiffer}
use Rattle.shard_merge.specs.declared.fault.MergeFault.{MergeFault}
use Rattle.shard_merge.specs.declared.fault.MergeFault.TheVariants.{Read, Uncovered, Differs, Memory}
use Rattle.shard_merge.specs.Covers.{shard_cells, covering}

-- the integrations of a job in order, by the number of the scan and their own in it
abbrev pub integrations_in : JobSizes → List (ℕ × ℕ)
integrations_in job =
    flat_map
    (λ (s : ℕ × ScanSize). map (λ (m : ℕ). (s.0, m)) (range_with_len s.1.first (integration_count job s.1)))
    (enumerate_from 0 job.scans)

-- the place at which cells differ, and both cells there
pub record Difference : Type 0 where
  pub at : ℕ
  pub first : Cell
  pub other : Cell

abbrev pub same_cell : Cell → Cell → Bool
same_cell c d = int_eq c.re d.re && (int_eq c.im d.im && (c.count == d.count))

-- the first place, counted from `at` on, at which two lists have different cells
abbrev pub difference : ℕ → List Cell → List Cell → Option Difference
difference at [] others = None
difference at (c ∷ cells) [] = None
difference at (c ∷ cells) (d ∷ others) =
    if same_cell c d then difference (at + 1) cells others else Some (record { at = at; first = c; other = d })

-- the one at the lesser place; of two at one place the first
abbrev pub earlier : Option Difference → Option Difference → Option Difference
earlier None other = other
earlier (Some d) None = Some d
earlier (Some d) (Some e) = if nat_lt e.at d.at then Some e else Some d

-- the first place at which one of several lists has another cell than the first one has; at one place the first such list
abbrev pub first_difference : List Cell → List (List Cell) → Option Difference
first_difference first others = fold (λ (least : Option Difference) other. earlier least (difference 0 first other)) None others

-- a difference in the integration of a number: groups stand one after another, each with its lags
abbrev pub differ_in : JobSizes → ℕ → Difference → CellsDiffer
differ_in job i d = record {
  integration = i;
  group = d.at / job.lags;
  lag = lag_of job.lags (d.at % job.lags);
  first = d.first;
  other = d.other;
}

-- what is wrong with the integration of a number, by its cells in the images that cover it
abbrev pub verdict_on : JobSizes → ℕ → List (List Cell) → Option MergeFault
verdict_on job i [] = Some (Uncovered i)
verdict_on job i (first ∷ others) = option_map (λ (d : Difference). Differs (differ_in job i d)) (first_difference first others)

abbrev pub verdict_at : JobSizes → List (List KeptEpoch) → ℕ → ℕ × ℕ → Option MergeFault
verdict_at job keeps i p = verdict_on job i (map (shard_cells job p.0 p.1) (covering job p.0 p.1 keeps))

-- the first of these, where the first of the integrations has this number
abbrev pub verdict_from : JobSizes → List (List KeptEpoch) → ℕ → List (ℕ × ℕ) → Option MergeFault
verdict_from job keeps i [] = None
verdict_from job keeps i (p ∷ places) = or_later (verdict_at job keeps i p) (verdict_from job keeps (i + 1) places)
  where
    or_later : Option MergeFault → Option MergeFault → Option MergeFault
    or_later None later = later
    or_later (Some fault) later = Some fault

-- what is wrong with shards that keep these epochs, if anything is
unfoldable pub verdict : JobSizes → List (List KeptEpoch) → Option MergeFault
verdict job keeps = verdict_from job keeps 0 (integrations_in job)

-- the verdict was found; a read fault and want of memory may come with any
abbrev pub IsVerdict : {T : Type 0} → Option MergeFault → Result T MergeFault → Type 0
IsVerdict want (Ok x) = want ≡ None
IsVerdict want (Err Read) = ⊤
IsVerdict want (Err (Uncovered i)) = want ≡ Some (Uncovered i)
IsVerdict want (Err (Differs d)) = want ≡ Some (Differs d)
IsVerdict want (Err Memory) = ⊤
