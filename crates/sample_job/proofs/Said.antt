-- What the job of a sample says.
use Rattle.std.specs.Prelude.{ℕ, ℤ, pos, negsuc, false, true, List, [], ◌∷◌, codes, Some}
use Rattle.delay_poly.specs.declared.entry.PolyEntry.{PolyEntry}
use Rattle.station_clock.specs.declared.entry.ClockEntry.{ClockEntry}
use Rattle.job_text.specs.declared.places.ChanPlace.{ChanPlace}
use Rattle.job_text.specs.Job.{JobFields, StationFields}

-- 00:00 of 1 January 2010
abbrev pub begin : ℤ
begin = pos 1262304000

abbrev pub both_chans : List (List ℕ × ChanPlace)
both_chans = (codes "X0", record { thread = 0; index = 0 }) ∷ (codes "X1", record { thread = 0; index = 1 }) ∷ []

-- a station with a clock and polynomials
abbrev pub station_with : List ℕ → ℕ → List ℕ → List ClockEntry → List PolyEntry → StationFields
station_with key id file clocks polys = record {
  key = key;
  id = id;
  bits = 2;
  chans_log2 = 1;
  frame_bytes = 8032;
  legacy = false;
  files = file ∷ [];
  chans = both_chans;
  clocks = clocks;
  polys = polys;
}

abbrev pub poly_1 : PolyEntry
poly_1 = record { second = begin; poly = pos 2147483648 ∷ pos 900000000000000 ∷ [] }

abbrev pub poly_2 : PolyEntry
poly_2 = record { second = begin; poly = negsuc 6442450943 ∷ negsuc 899999999999999 ∷ [] }

abbrev pub clock_3 : ClockEntry
clock_3 = record { second = begin; c0 = pos 4294967296; c1 = pos 1000 }

abbrev pub station_0 : StationFields
station_0 = station_with (codes "S0") 0 (codes "s0.vdif") [] []

abbrev pub station_1 : StationFields
station_1 = station_with (codes "S1") 1 (codes "s1.vdif") [] (poly_1 ∷ [])

abbrev pub station_2 : StationFields
station_2 = station_with (codes "S2") 2 (codes "s2.vdif") [] (poly_2 ∷ [])

abbrev pub station_3 : StationFields
station_3 = station_with (codes "S3") 3 (codes "s3.vdif") (clock_3 ∷ []) []

abbrev pub stations : List StationFields
stations = station_0 ∷ station_1 ∷ station_2 ∷ station_3 ∷ []

-- a station of which no line says more
abbrev pub bare_of : StationFields → StationFields
bare_of s = record s { files = []; chans = []; clocks = []; polys = [] }

-- the job of so many samples
abbrev pub job_with : ℕ → JobFields
job_with samples = record {
  lags = 32;
  integration = 160000;
  epoch = 50000;
  knot = 1000;
  auto = false;
  rate = Some 160000;
  stations = stations;
  products = (codes "X0", codes "X0") ∷ (codes "X1", codes "X1") ∷ [];
  takes = [];
  scans = (codes "G", record { second = begin; samples = samples }) ∷ [];
  bands = (codes "X0", record { hertz = 1600000000; upper = true }) ∷ (codes "X1", record { hertz = 1600000000; upper = false }) ∷ [];
}
