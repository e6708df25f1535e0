-- Scans whose stations do not go together.
use Rattle.std.specs.Prelude.{ℕ, ◌==◌, ◌%◌, ◌&&◌, not, Bool, List, slice_get, Option}
use Rattle.std.specs.List.{list_any, position}
use Rattle.vdif_frame.specs.Shape.{samples_per_frame}
use Rattle.scan_list.specs.declared.scan.Scan.{Scan}
use Rattle.job_text.specs.Job.{JobFields, StationFields}
use Rattle.job_join.specs.Standing.{Stand, is_taken, stands_in, rate_of}
use Rattle.job_join.specs.Channels.{channels_of, chans_in, differ, are_different}
use Rattle.job_text.specs.Ranges.{shape_of}

-- the first scan that is taken and for which a test holds, by its number in the schedule
abbrev pub first_taken : JobFields → List Scan → (Scan → Bool) → Option ℕ
first_taken job scans test = position (λ scan. is_taken job.takes scan && test scan) scans

-- the first scan in which a station has another sample rate than the job's
unfoldable pub rate_differs : JobFields → List Scan → Option ℕ
rate_differs job scans =
    first_taken job scans (λ scan. list_any (λ (s : Stand). not (s.pass.rate == rate_of job scans)) (stands_in job scan))

-- the first scan in which a channel of some product has at a station another band than at the scan's first station
-- that has it
unfoldable pub channel_differs : JobFields → List Scan → Option ℕ
channel_differs job scans =
    first_taken job scans (λ scan. list_any (λ name. differ (chans_in job scan name)) (channels_of job))

-- the first scan in which the two channels of a product, each at the first station that has it, have different bands
unfoldable pub product_differs : JobFields → List Scan → Option ℕ
product_differs job scans =
    first_taken job scans (λ scan. list_any
    (λ (p : List ℕ × List ℕ). are_different (slice_get (chans_in job scan p.0) 0) (slice_get (chans_in job scan p.1) 0))
    job.products)

-- the first station whose frames do not go into a second
unfoldable pub frame_rate : JobFields → List Scan → Option ℕ
frame_rate job scans =
    position (λ (s : StationFields). not ((rate_of job scans % samples_per_frame (shape_of 0 s)) == 0)) job.stations
