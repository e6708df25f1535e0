-- How the program holds the stations of a job in the scans of a schedule.
use Rattle.std.specs.Prelude.{ℕ, ◌==◌, ◌&&◌, Bool, not, List, [], ◌∷◌, map, filter_map, bytes_eq, slice_get, Option, None, Some, option_map, unwrap_or, if◌then◌else◌}
use Rattle.std.specs.List.{position, list_any}
use Rattle.scan_list.specs.declared.scan.Chan.{Chan}
use Rattle.scan_list.specs.declared.scan.Scan.{Scan}
use Rattle.scan_list.specs.declared.scan.Pass.{Pass}
use Rattle.job_text.specs.Job.{JobFields, StationFields}
use Rattle.job_join.specs.declared.stands.Here.{Here}
use Rattle.job_join.specs.declared.places.Place.{Place}
use Rattle.job_join.specs.Standing.{Stand, is_taken, stands_in}
use Rattle.job_join.specs.Channels.{chan_with, differ, are_different}

-- a station in a scan, as the program holds it
abbrev pub stand_of : Here → Stand
stand_of h = record { number = h.number; station = h.station.now; pass = h.pass.now }

abbrev pub stands_of : List Here → List Stand
stands_of = map stand_of

-- the station of some that has a part, by its number
abbrev pub found_by : List StationFields → Pass → Option ℕ → Option Stand
found_by stations pass None = None
found_by stations pass (Some n) = option_map (λ (s : StationFields). record { number = n; station = s; pass = pass }) (slice_get stations n)

-- the first of some stations with the key of a part
abbrev pub found_at : List StationFields → Pass → Option Stand
found_at stations pass = found_by stations pass (position (λ (s : StationFields). bytes_eq s.key pass.key) stations)

-- a scan of the schedule: whether the job takes it, and the job's stations in it
pub record Visit : Type 0 where
  pub scan : Scan
  pub taken : Bool
  pub stands : List Stand

abbrev pub visit_in : JobFields → Scan → Visit
visit_in job scan = record { scan = scan; taken = is_taken job.takes scan; stands = stands_in job scan }

-- a scan, as the program holds it
abbrev pub visit_of : Place → Visit
visit_of p = record { scan = p.scan.now; taken = p.taken; stands = stands_of p.stands.items }

-- it is taken, and one of its parts has this key
abbrev pub has_key : List ℕ → Visit → Bool
has_key key v = v.taken && list_any (λ (p : Pass). bytes_eq p.key key) v.scan.passes

-- the rate of its first station, where it is taken
abbrev pub first_rate : Visit → Option ℕ
first_rate v = if v.taken then option_map (λ (s : Stand). s.pass.rate) (slice_get v.stands 0) else None

-- the first of these rates, 0 where there is none
abbrev pub rate_among : List Visit → ℕ
rate_among [] = 0
rate_among (v ∷ visits) = unwrap_or (first_rate v) (rate_among visits)

-- it is taken, and a station has another rate
abbrev pub has_other_rate : ℕ → Visit → Bool
has_other_rate rate v = v.taken && list_any (λ (s : Stand). not (s.pass.rate == rate)) v.stands

-- what some stations have under a channel's name
abbrev pub chans_under : List Stand → List ℕ → List Chan
chans_under stands name = filter_map (λ (s : Stand). chan_with s.pass name) stands

-- it is taken, and a channel differs at two of its stations
abbrev pub has_other_band : List (List ℕ) → Visit → Bool
has_other_band channels v = v.taken && list_any (λ name. differ (chans_under v.stands name)) channels

-- it is taken, and the channels of a product differ
abbrev pub has_unlike_product : List (List ℕ × List ℕ) → Visit → Bool
has_unlike_product products v = v.taken && list_any
    (λ (p : List ℕ × List ℕ). are_different (slice_get (chans_under v.stands p.0) 0) (slice_get (chans_under v.stands p.1) 0))
    products
