-- The scans that a job takes of a schedule, and its stations in them.
use Rattle.std.specs.Prelude.{ℕ, Bool, true, not, is_some, List, [], ◌∷◌, filter, filter_map, find, flat_map, bytes_eq, slice_get, Option, option_map, unwrap_or}
use Rattle.std.specs.List.{list_any, position, enumerate_from}
use Rattle.scan_list.specs.declared.scan.Pass.{Pass}
use Rattle.scan_list.specs.declared.scan.Scan.{Scan}
use Rattle.job_text.specs.Job.{JobFields, StationFields}

-- a name that stands in a list
abbrev pub is_among : List ℕ → List (List ℕ) → Bool
is_among name names = list_any (λ other. bytes_eq other name) names

-- a scan is taken where it is named, and where no scan is
abbrev pub is_taken : List (List ℕ) → Scan → Bool
is_taken [] scan = true
is_taken (name ∷ names) scan = is_among scan.name (name ∷ names)

-- the scans that are taken, in the schedule's order
unfoldable pub taken : JobFields → List Scan → List Scan
taken job scans = filter (is_taken job.takes) scans

-- the part in a scan of the station with a key
abbrev pub pass_with : Scan → List ℕ → Option Pass
pass_with scan key = find (λ (p : Pass). bytes_eq p.key key) scan.passes

-- a station of the job in a scan: its number in the job, and its part
pub record Stand : Type 0 where
  pub number : ℕ
  pub station : StationFields
  pub pass : Pass

abbrev pub stand_in : Scan → ℕ × StationFields → Option Stand
stand_in scan s = option_map (λ pass. record { number = s.0; station = s.1; pass = pass }) (pass_with scan s.1.key)

-- the job's stations in a scan, in the job's order; a station that the job does not name is passed over
unfoldable pub stands_in : JobFields → Scan → List Stand
stands_in job scan = filter_map (stand_in scan) (enumerate_from 0 job.stations)

-- the first `take` line that names no scan
unfoldable pub unknown_scan : JobFields → List Scan → Option ℕ
unknown_scan job scans =
    position (λ name. not (list_any (λ (scan : Scan). bytes_eq scan.name name) scans)) job.takes

-- the first station that is in no scan that is taken
unfoldable pub unknown_station : JobFields → List Scan → Option ℕ
unknown_station job scans =
    position (λ (s : StationFields). not (list_any (λ scan. is_some (pass_with scan s.key)) (taken job scans))) job.stations

-- the sample rate of the job: that of the first station of the first scan in which one of its stations stands
unfoldable pub rate_of : JobFields → List Scan → ℕ
rate_of job scans = unwrap_or (option_map (λ (s : Stand). s.pass.rate) (slice_get (flat_map (stands_in job) (taken job scans)) 0)) 0
