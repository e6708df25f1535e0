-- What the rows of a job say together.
use Rattle.std.specs.Prelude.{ℕ, ◌^◌, Bool, List, map, filter_map, fold, bytes_eq, Option, Some, None, if◌then◌else◌}
use Rattle.std.specs.List.{list_any}
use Rattle.job_lines.specs.Words.{are_one}
use Rattle.job_lines.specs.Rows.{Row}
use Rattle.job_lines.specs.declared.word.Word.{Word}
use Rattle.job_lines.specs.declared.word.Word.TheVariants.{Lags, Integration, Epoch, Knot, Auto, Station, File, Chan, Clock, Poly, Product, Take, Rate, Scan, Band as BandWord}
use Rattle.job_text.specs.declared.places.ScanSpan.{ScanSpan}
use Rattle.job_text.specs.declared.places.Band.{Band}
use Rattle.job_text.specs.Job.{StationFields}
use Rattle.job_text.specs.Values.{field, lags_in, integration_in, epoch_in, knot_in, station_in, chan_in, clock_in, poly_in, rate_in, scan_in, band_in}

-- what the fields behind a word say, of each row of that word
unfoldable pub each : {A : Type 0} → Word → (List (List ℕ) → Option A) → List Row → List A
each word read rows = filter_map (λ row. if are_one row.word word then read row.fields else None) rows

-- what the last of some things is
abbrev pub last : {A : Type 0} → List A → Option A
last xs = fold (λ _ x. Some x) None xs

-- what the fields say, where the first of them is the key
abbrev pub of_key : {A : Type 0} → List ℕ → (List (List ℕ) → Option A) → List (List ℕ) → Option A
of_key key read fields = if bytes_eq key (field fields 0) then read fields else None

-- a station with what the rows say that name it
unfoldable pub filled : List Row → StationFields → StationFields
filled rows s = record s {
  files = each File (of_key s.key (λ fields. Some (field fields 1))) rows;
  chans = each Chan (of_key s.key (chan_in (2 ^ s.chans_log2))) rows;
  clocks = each Clock (of_key s.key clock_in) rows;
  polys = each Poly (of_key s.key poly_in) rows;
}

-- what rows say: the numbers where there are such rows, and lists in the order of the rows
pub record Said : Type 0 where
  pub lags : Option ℕ
  pub integration : Option ℕ
  pub epoch : Option ℕ
  pub knot : Option ℕ
  pub auto : Bool
  pub rate : Option ℕ
  pub stations : List StationFields
  pub products : List (List ℕ × List ℕ)
  pub takes : List (List ℕ)
  pub scans : List (List ℕ × ScanSpan)
  pub bands : List (List ℕ × Band)

unfoldable pub said_by : List Row → Said
said_by rows = record {
  lags = last (each Lags lags_in rows);
  integration = last (each Integration integration_in rows);
  epoch = last (each Epoch epoch_in rows);
  knot = last (each Knot knot_in rows);
  auto = list_any (λ row. are_one row.word Auto) rows;
  rate = last (each Rate rate_in rows);
  stations = map (filled rows) (each Station station_in rows);
  products = each Product (λ fields. Some (field fields 0, field fields 1)) rows;
  takes = each Take (λ fields. Some (field fields 0)) rows;
  scans = each Scan scan_in rows;
  bands = each BandWord band_in rows;
}
