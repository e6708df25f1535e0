-- The schedule of a job that states its scans itself.
use Rattle.std.specs.Prelude.{ℕ, pos, List, map, Some, unwrap_or}
use Rattle.scan_list.specs.declared.scan.Chan.{Chan as ScanChan}
use Rattle.scan_list.specs.declared.scan.Pass.{Pass}
use Rattle.scan_list.specs.declared.scan.Scan.{Scan as WholeScan}
use Rattle.job_text.specs.declared.places.ScanSpan.{ScanSpan}
use Rattle.job_text.specs.declared.places.Band.{Band}
use Rattle.job_text.specs.Job.{JobFields, StationFields}

-- a band as a channel, of which no bandwidth is known
abbrev pub chan_of : List ℕ × Band → ScanChan
chan_of band = record { id = band.0; hertz = band.1.hertz; upper = band.1.upper; band_hertz = 0 }

-- A station's part in a scan of so many samples, at a rate and with these channels: it begins with the scan.
abbrev pub pass_of : ℕ → List ScanChan → ℕ → StationFields → Pass
pass_of rate chans samples station = record {
  key = station.key;
  from_us = pos 0;
  to_us = pos 0;
  samples = Some samples;
  rate = rate;
  chans = chans;
}

-- a scan in which these stations take part
abbrev pub scan_of : ℕ → List ScanChan → List StationFields → List ℕ × ScanSpan → WholeScan
scan_of rate chans stations scan = record {
  name = scan.0;
  second = scan.1.second;
  passes = map (pass_of rate chans scan.1.samples) stations;
}

-- the job's scans, in the order of their lines, in which all its stations have all its bands
abbrev pub scans_of : JobFields → List WholeScan
scans_of job = map (scan_of (unwrap_or job.rate 0) (map chan_of job.bands) job.stations) job.scans
