-- A job as contracts see it.
use Rattle.std.specs.Prelude.{ℕ, Bool, List, Option}
use Rattle.delay_poly.specs.declared.entry.PolyEntry.{PolyEntry}
use Rattle.station_clock.specs.declared.entry.ClockEntry.{ClockEntry}
use Rattle.job_text.specs.declared.places.ChanPlace.{ChanPlace}
use Rattle.job_text.specs.declared.places.ScanSpan.{ScanSpan}
use Rattle.job_text.specs.declared.places.Band.{Band}

-- A station: its key, and what all its frames have alike; the number of its channels is two to the power
-- `chans_log2`. Behind that its files, the place of each channel by its name, its clock and its polynomials, each in the
-- order of the lines.
pub record StationFields : Type 0 where
  pub key : List ℕ
  pub id : ℕ
  pub bits : ℕ
  pub chans_log2 : ℕ
  pub frame_bytes : ℕ
  pub legacy : Bool
  pub files : List (List ℕ)
  pub chans : List (List ℕ × ChanPlace)
  pub clocks : List ClockEntry
  pub polys : List PolyEntry

-- A job. The integration, the epoch and the knot are in samples; the rate stands in a job that states its scans itself.
-- Each list is in the order of the lines; a product is the channel of its first station and that of its second.
pub record JobFields : Type 0 where
  pub lags : ℕ
  pub integration : ℕ
  pub epoch : ℕ
  pub knot : ℕ
  pub auto : Bool
  pub rate : Option ℕ
  pub stations : List StationFields
  pub products : List (List ℕ × List ℕ)
  pub takes : List (List ℕ)
  pub scans : List (List ℕ × ScanSpan)
  pub bands : List (List ℕ × Band)
