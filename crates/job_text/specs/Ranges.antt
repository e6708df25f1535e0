-- The jobs that there are: the ranges of their numbers and names.
use Rattle.std.specs.Prelude.{ℕ, ◌≡◌, ◌≢◌, ◌%◌, ◌^◌, ◌≤◌, ◌<◌, List, length, map, AllPairs, IfSome}
use Rattle.std.specs.List.{All}
use Rattle.std.specs.Str.{IsUtf8}
use Rattle.num_time.specs.Times.{IsSecond}
use Rattle.sample_unpack.specs.Level.{IsWidth}
use Rattle.vdif_frame.specs.Shape.{ShapeFields, IsShape}
use Rattle.corr_model.specs.Delay.{IsClock}
use Rattle.job_text.specs.declared.places.ChanPlace.{ChanPlace}
use Rattle.job_text.specs.declared.places.ScanSpan.{ScanSpan}
use Rattle.job_text.specs.declared.places.Band.{Band}
use Rattle.job_text.specs.Job.{JobFields, StationFields}

-- a name of 1 to 255 bytes
abbrev pub IsName : List ℕ → Type 0
IsName name = (1 ≤ length name) × (length name ≤ 255)

-- names that differ
abbrev pub AreDistinct : List (List ℕ) → Type 0
AreDistinct names = AllPairs (λ x y. x ≢ y) names

-- the shape of a station's frames, of which so many come in a second
abbrev pub shape_of : ℕ → StationFields → ShapeFields
shape_of frames s = record {
  legacy = s.legacy;
  frame_bytes = s.frame_bytes;
  chans_log2 = s.chans_log2;
  bits = s.bits;
  station = s.id;
  frames = frames;
}

-- a channel that a frame can hold
abbrev pub IsChanOf : StationFields → List ℕ × ChanPlace → Type 0
IsChanOf s c = IsName c.0 × ((c.1.thread < 1024) × (c.1.index < 2 ^ s.chans_log2))

-- A station: its samples have one, two or four bits, its files' names are texts, and its frames are some shape's.
pub record IsStationOf (s : StationFields) : Type 0 where
  pub key : IsName s.key
  pub shape : IsShape (shape_of 1 s)
  pub bits : IsWidth s.bits
  pub files : All IsUtf8 s.files
  pub chans : All (IsChanOf s) s.chans
  pub distinct : AreDistinct (map (λ (c : List ℕ × ChanPlace). c.0) s.chans)
  pub polys : All (λ e. IsSecond e.second) s.polys
  pub clocks : All IsClock s.clocks

-- a scan of the job's own
abbrev pub IsSpan : List ℕ × ScanSpan → Type 0
IsSpan s = IsName s.0 × (IsSecond s.1.second × (s.1.samples ≤ 2 ^ 40))

pub record IsJob (job : JobFields) : Type 0 where
  pub some_lags : 2 ≤ job.lags
  pub lags : job.lags ≤ 1024
  pub even : job.lags % 2 ≡ 0
  pub some_integration : 1 ≤ job.integration
  pub integration : job.integration ≤ 2 ^ 36
  pub some_epoch : 1 ≤ job.epoch
  pub epoch : job.epoch ≤ 4194304
  pub some_knot : 1 ≤ job.knot
  pub knot : job.knot ≤ 2 ^ 24
  pub rate : IfSome job.rate (λ r. (1 ≤ r) × (r < 2 ^ 32))
  pub some_station : 1 ≤ length job.stations
  pub stations : All IsStationOf job.stations
  pub keys : AreDistinct (map (λ (s : StationFields). s.key) job.stations)
  pub some_product : 1 ≤ length job.products
  pub products : All (λ (p : List ℕ × List ℕ). IsName p.0 × IsName p.1) job.products
  pub scans : All IsSpan job.scans
  pub scan_names : AreDistinct (map (λ (s : List ℕ × ScanSpan). s.0) job.scans)
  pub bands : All (λ (b : List ℕ × Band). b.1.hertz < 2 ^ 40) job.bands
  pub band_names : AreDistinct (map (λ (b : List ℕ × Band). b.0) job.bands)
