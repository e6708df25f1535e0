-- The quantities of a job, as the program measures them.
use Rattle.std.specs.Prelude.{ℕ, ◌*◌, ◌^◌, ◌==◌, ◌+◌, Bool, if◌then◌else◌, List, [], ◌∷◌, length, map, filter_map, slice_get, fold, Option}
use Rattle.std.specs.Int.{div_ceil}
use Rattle.scan_list.specs.declared.scan.Scan.{Scan}
use Rattle.job_plan.specs.declared.plan.BaselinePlan.{BaselinePlan}
use Rattle.job_text.specs.Job.{JobFields}
use Rattle.job_join.specs.declared.fault.Quantity.{Quantity}
use Rattle.job_join.specs.declared.places.Place.{Place}
use Rattle.job_join.specs.declared.fault.Quantity.TheVariants.{Stations, Products, Channels, Samples, Seconds, Cells, Load, Epochs}
use Rattle.job_join.specs.Channels.{channels_of}
use Rattle.job_join.specs.Spans.{samples_of}
use Rattle.job_join.specs.Limits.{Measure, measure, past, baselines_in, scan_epochs, epochs_in}
use Rattle.job_join.specs.Joining.{held_samples}
use Rattle.job_join.specs.Planned.{pairs_in}

-- the first of some quantities that passes its greatest, with its value
abbrev pub first_past : List Measure → Option (Quantity × ℕ)
first_past ms = slice_get (filter_map past ms) 0

-- the numbers of things of a job
abbrev pub job_measures : JobFields → List Measure
job_measures job =
    measure Stations 32 (length job.stations ∷ [])
    ∷ measure Products 256 (length job.products ∷ [])
    ∷ measure Channels 64 (length (channels_of job) ∷ [])
    ∷ []

-- the lengths of its scans
abbrev pub length_measures : JobFields → ℕ → List Scan → List Measure
length_measures job rate scans =
    measure Samples (2 ^ 40) (map (samples_of job rate) scans)
    ∷ measure Seconds (2 ^ 27) (map (λ scan. div_ceil (samples_of job rate scan) rate) scans)
    ∷ []

-- what a correlation keeps of them, with epochs of this length
abbrev pub size_measures : JobFields → ℕ → ℕ → List Scan → List Measure
size_measures job epoch rate scans =
    measure Cells 4194304 (map (λ scan. length (baselines_in job scan) * length job.products * job.lags) scans)
    ∷ measure Load 268435456 (length job.stations * length (channels_of job) * epoch ∷ [])
    ∷ measure Epochs (2 ^ 32) (fold ◌+◌ 0 (map (scan_epochs job epoch rate) scans) ∷ [])
    ∷ []

-- the whole seconds that hold a scan
abbrev pub held_seconds : ℕ → Place → ℕ
held_seconds rate p = div_ceil (held_samples rate p) rate

-- the baselines of a scan
abbrev pub held_baselines : Bool → Place → List BaselinePlan
held_baselines auto p = pairs_in auto p.stands.items p.stands.items

-- the cells of a scan: one for each baseline, product and lag
abbrev pub held_cells : JobFields → Place → ℕ
held_cells job p = length (held_baselines job.auto p) * length job.products * job.lags

-- the epochs of a scan: none without a baseline
abbrev pub held_epochs : JobFields → ℕ → ℕ → Place → ℕ
held_epochs job epoch rate p = if length (held_baselines job.auto p) == 0 then 0 else epochs_in job epoch (held_samples rate p)
