-- What a head in memory says.
use Rattle.std.specs.Prelude.{◌≤◌, ℕ, List, ◌++◌, length, map, codes}
use Rattle.byteorder.specs.Endian.{little_bytes}
use Rattle.corr_model.specs.Records.{Head, HeadScan, IsName}
use Rattle.vis_records.specs.declared.head.VisProduct.{VisProduct}
use Rattle.vis_records.specs.declared.head.VisBaseline.{VisBaseline}
use Rattle.vis_records.specs.declared.head.VisScan.{VisScan}

abbrev pub product_of : VisProduct → List ℕ × List ℕ
product_of p = (p.x, p.y)

abbrev pub baseline_of : VisBaseline → ℕ × ℕ
baseline_of b = (b.a, b.b)

abbrev pub scan_of : VisScan → HeadScan
scan_of s = record { name = s.name; second = s.second; samples = s.samples; baselines = map baseline_of s.baselines }

-- the head of these numbers and lists
abbrev pub head_from : ℕ → ℕ → ℕ → List (List ℕ) → List VisProduct → List VisScan → Head
head_from lags integration rate stations products scans = record {
  lags = lags;
  integration = integration;
  rate = rate;
  stations = stations;
  products = map product_of products;
  scans = map scan_of scans;
}

-- a product of two names, and a scan of few baselines with a name
abbrev pub AreNames : VisProduct → Type 0
AreNames p = IsName p.x × IsName p.y

abbrev pub IsShort : VisScan → Type 0
IsShort s = IsName s.name × (length s.baselines ≤ 528)

-- a head's mark and sizes, and the number of its stations
abbrev pub sizes_text : Head → List ℕ
sizes_text head =
    codes "VLBIVIS1"
    ++ little_bytes 4 head.lags
    ++ little_bytes 8 head.integration
    ++ little_bytes 8 head.rate
    ++ little_bytes 4 (length head.stations)
