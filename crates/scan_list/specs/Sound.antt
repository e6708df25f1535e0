-- What each schedule keeps, read from a file or made otherwise.
use Rattle.std.specs.Prelude.{◌≢◌, ◌<◌, ◌≤◌, ◌^◌, pos, ◌≤ℤ◌, List, length, map, All, AllPairs}
use Rattle.num_time.specs.Times.{IsSecond}
use Rattle.scan_list.specs.declared.scan.Chan.{Chan}
use Rattle.scan_list.specs.declared.scan.Pass.{Pass}
use Rattle.scan_list.specs.declared.scan.Scan.{Scan}

-- a channel's frequencies are below 2 ^ 40 hertz
pub record IsChan (chan : Chan) : Type 0 where
  pub hertz : chan.hertz < 2 ^ 40
  pub band : chan.band_hertz < 2 ^ 40

-- a station's part lies behind the scan's start and does not end before it begins, its sample rate is not 0, and its channels
-- differ in their names
pub record IsPass (pass : Pass) : Type 0 where
  pub start : pos 0 ≤ℤ pass.from_us
  pub order : pass.from_us ≤ℤ pass.to_us
  pub rate : 0 < pass.rate
  pub chans : All IsChan pass.chans
  pub distinct : AllPairs (λ x y. x ≢ y) (map (λ chan. chan.id) pass.chans)

-- a scan has a name of 1 to 255 bytes and a second of the years 1970 to 2099, and its stations differ in their keys
pub record IsScan (scan : Scan) : Type 0 where
  pub named : 0 < length scan.name
  pub short : length scan.name ≤ 255
  pub second : IsSecond scan.second
  pub passes : All IsPass scan.passes
  pub distinct : AllPairs (λ x y. x ≢ y) (map (λ pass. pass.key) scan.passes)

-- the scans of a schedule differ in their names
pub record AreScans (scans : List Scan) : Type 0 where
  pub each : All IsScan scans
  pub distinct : AllPairs (λ x y. x ≢ y) (map (λ scan. scan.name) scans)
