-- Stations without a delay model, or without a clock, at some sample of a scan in which they stand.
use Rattle.std.specs.Prelude.{ℕ, not, Bool, List, map, find, flat_map, Option, option_map}
use Rattle.corr_model.specs.Delay.{DelayModel, has_model, has_clock}
use Rattle.delay_track.specs.Model.{delay_model}
use Rattle.scan_list.specs.declared.scan.Scan.{Scan}
use Rattle.job_text.specs.Job.{JobFields, StationFields}
use Rattle.job_join.specs.Standing.{Stand, taken, stands_in, rate_of}
use Rattle.job_join.specs.Spans.{samples_of}

-- what a station's delay in a scan depends on
abbrev pub model_in : JobFields → ℕ → Scan → StationFields → DelayModel
model_in job rate scan s = delay_model s.polys s.clocks scan.second rate job.knot

-- the scans that are taken, each with each of its stations, in order
abbrev pub stays_taken : JobFields → List Scan → List (Scan × Stand)
stays_taken job scans = flat_map (λ scan. map (λ s. (scan, s)) (stands_in job scan)) (taken job scans)

-- the first station of the first scan for which a test over all of the scan's samples fails, by its number in the job
abbrev pub first_failing : (DelayModel → ℕ → Bool) → JobFields → List Scan → Option ℕ
first_failing test job scans =
    option_map (λ (x : Scan × Stand). x.1.number)
    (find (λ (x : Scan × Stand). not (test (model_in job (rate_of job scans) x.0 x.1.station) (samples_of job (rate_of job scans) x.0))) (stays_taken job scans))

unfoldable pub no_model : JobFields → List Scan → Option ℕ
no_model job scans = first_failing has_model job scans

unfoldable pub no_clock : JobFields → List Scan → Option ℕ
no_clock job scans = first_failing has_clock job scans
