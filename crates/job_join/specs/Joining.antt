-- A job and the scans of a schedule, as the program joins them.
use Rattle.std.specs.Prelude.{◌≡◌, ℕ, List, map, max, fold, bytes_eq, is_some, Option}
use Rattle.std.specs.List.{list_any}
use Rattle.named_list.specs.Named.{named, names}
use Rattle.scan_list.specs.declared.scan.Scan.{Scan}
use Rattle.job_text.specs.Job.{JobFields}
use Rattle.job_text.specs.Ranges.{IsJob}
use Rattle.job_join.specs.declared.fault.JoinFault.{JoinFault}
use Rattle.job_join.specs.declared.places.Place.{Place}
use Rattle.job_join.specs.declared.joining.Joining.{Joining}
use Rattle.job_join.specs.Standing.{rate_of}
use Rattle.job_join.specs.Channels.{channels_of}
use Rattle.job_join.specs.Joined.{first_there, early_causes, late_causes}
use Rattle.job_join.specs.declared.stands.Here.{Here}
use Rattle.job_join.specs.Spans.{end_sample}
use Rattle.job_join.specs.Places.{visit_in, visit_of, has_key}

-- the scans
abbrev pub scans_of : Joining → List Scan
scans_of j = map (λ (p : Place). p.scan.now) j.places.items

-- the job is in its ranges, each scan is held with the job's stations in it, the names are those of the scans, the keys those of
-- the stations of the scans that are taken, and the channels and the rate are the job's
pub record IsJoining (j : Joining) : Type 0 where
  pub job : IsJob j.job.now
  pub visits : map visit_of j.places.items ≡ map (visit_in j.job.now) (scans_of j)
  pub scan_names : (q : List ℕ) → is_some (named j.scan_names q) ≡ list_any (λ (scan : Scan). bytes_eq scan.name q) (scans_of j)
  pub station_keys : (q : List ℕ) → is_some (named j.station_keys q) ≡ list_any (λ (p : Place). has_key q (visit_of p)) j.places.items
  pub channels : names j.channels ≡ channels_of j.job.now
  pub rate : j.rate ≡ rate_of j.job.now (scans_of j)

-- the first cause among those that ask for no delay and for no size
abbrev pub early_of : JobFields → List Scan → Option JoinFault
early_of job scans = first_there (early_causes job scans)

-- the first cause among the others
abbrev pub late_of : JobFields → ℕ → List Scan → Option JoinFault
late_of job epoch scans = first_there (late_causes job epoch scans)

-- as far as the stations of a scan go
abbrev pub held_samples : ℕ → Place → ℕ
held_samples rate p = fold (λ most (h : Here). max most (end_sample rate h.pass.now)) 0 p.stands.items
