-- The greatest sizes of a job.
use Rattle.std.specs.Prelude.{ℕ, ◌+◌, ◌*◌, ◌/◌, ◌%◌, ◌^◌, ◌==◌, ◌&&◌, ◌||◌, nat_lt, if◌then◌else◌, List, [], ◌∷◌, length, map, filter, filter_map, flat_map, find, fold, slice_get, Option, option_map}
use Rattle.std.specs.Int.{div_ceil}
use Rattle.scan_list.specs.declared.scan.Scan.{Scan}
use Rattle.job_plan.specs.declared.plan.BaselinePlan.{BaselinePlan}
use Rattle.job_text.specs.Job.{JobFields}
use Rattle.job_join.specs.declared.fault.Quantity.{Quantity}
use Rattle.job_join.specs.declared.fault.Quantity.TheVariants.{Stations, Products, Channels, Samples, Seconds, Cells, Load, Epochs}
use Rattle.job_join.specs.Standing.{Stand, taken, stands_in, rate_of}
use Rattle.job_join.specs.Channels.{channels_of}
use Rattle.job_join.specs.Spans.{samples_of}

-- The baselines of a scan: two of its stations, the first before the second in the job, and a station with itself
-- where the job asks for it; in the order of the first, then of the second.
unfoldable pub baselines_in : JobFields → Scan → List BaselinePlan
baselines_in job scan = flat_map (λ (a : Stand). map (λ (b : Stand). record { a = a.number; b = b.number }) (seconds a)) (stands_in job scan)
  where
    seconds : Stand → List Stand
    seconds a = filter (λ (b : Stand). nat_lt a.number b.number || (job.auto && (a.number == b.number))) (stands_in job scan)

-- the epochs of so many samples, of a length each: those of its whole integrations, and those of the rest
abbrev pub epochs_in : JobFields → ℕ → ℕ → ℕ
epochs_in job epoch samples =
    samples / job.integration * div_ceil job.integration epoch + div_ceil (samples % job.integration) epoch

-- the epochs of a scan: none without a baseline
abbrev pub scan_epochs : JobFields → ℕ → ℕ → Scan → ℕ
scan_epochs job epoch rate scan = if length (baselines_in job scan) == 0 then 0 else epochs_in job epoch (samples_of job rate scan)

-- a quantity, the most that it may be, and what it is: once for the job, or in each scan
pub record Measure : Type 0 where
  pub quantity : Quantity
  pub most : ℕ
  pub values : List ℕ

abbrev pub measure : Quantity → ℕ → List ℕ → Measure
measure quantity most values = record { quantity = quantity; most = most; values = values }

-- the quantities of a job with these scans and epochs of this length, in the order in which they are tried
unfoldable pub measures : JobFields → ℕ → ℕ → List Scan → List Measure
measures job epoch rate scans =
    measure Stations 32 (length job.stations ∷ [])
    ∷ measure Products 256 (length job.products ∷ [])
    ∷ measure Channels 64 (length (channels_of job) ∷ [])
    ∷ measure Samples (2 ^ 40) (map (samples_of job rate) scans)
    ∷ measure Seconds (2 ^ 27) (map (λ scan. div_ceil (samples_of job rate scan) rate) scans)
    ∷ measure Cells 4194304 (map (λ scan. length (baselines_in job scan) * length job.products * job.lags) scans)
    ∷ measure Load 268435456 (length job.stations * length (channels_of job) * epoch ∷ [])
    ∷ measure Epochs (2 ^ 32) (fold ◌+◌ 0 (map (scan_epochs job epoch rate) scans) ∷ [])
    ∷ []

-- a quantity past its greatest, with the first such value
abbrev pub past : Measure → Option (Quantity × ℕ)
past m = option_map (λ value. (m.quantity, value)) (find (λ value. nat_lt m.most value) m.values)

-- the first quantity that passes its greatest, with its value
unfoldable pub limit : JobFields → ℕ → List Scan → Option (Quantity × ℕ)
limit job epoch scans = slice_get (filter_map past (measures job epoch (rate_of job scans) (taken job scans))) 0
