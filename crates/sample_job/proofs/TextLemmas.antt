-- The text of a sample's job, line by line.
use Rattle.std.specs.Prelude.{nat_lt, ℤ, pos, option_to_list, filter_map, map}
use Rattle.std.specs.List.{list_any}
use Rattle.std.proofs.Common.{◌≡◌, ◌∙◌, ◌*◌, ◌+◌, ◌^◌, ◌≤◌, arith, ℕ, Bool, true, false, List, [], ◌∷◌, ◌++◌, codes, length, Option, None, Some, Result, Ok, refl, sym, ap, subst}
use Rattle.std.specs.Fmt.{decimal}
use Rattle.std.specs.Str.Lines.{lines}
use Rattle.std.proofs.lemmas.Bool.{le-leb}
use Rattle.std.proofs.lemmas.List.Elements.{filter_map-append}
use Rattle.jiff_core.specs.Calendar.{days_of_years, days_of_months, day_count, days_from_civil}
use Rattle.num_time.specs.Numerals.{decimal_of, is_number, moved_digits, scaled}
use Rattle.num_time.specs.declared.numerals.NumFault.{NumFault}
use Rattle.num_time.specs.Times.{digits_at, number_at, has_form, is_end, is_time, second_at, vex_second_of}
use Rattle.job_lines.specs.declared.word.Word.TheVariants.{Lags, Integration, Epoch, Knot, Auto, Station, File, Chan, Clock, Poly, Product, Take, Rate, Scan as ScanWord, Band as BandWord}
use Rattle.job_lines.specs.Words.{are_one}
use Rattle.job_lines.specs.Rows.{Row, row_of, row_from, is_clean, fields_of}
use Rattle.sample_gen.specs.Job.{job_of}
use Rattle.job_text.specs.declared.fault.JobFault.{JobFault}
use Rattle.job_text.specs.Job.{JobFields, StationFields}
use Rattle.job_text.specs.Values.{field, integration_in, epoch_in, knot_in, rate_in, whole_of, second_of, number_within, lags_in, frame_bytes_in, station_in, chan_in, clock_in, poly_in, scan_in, band_in}
use Rattle.job_text.specs.Said.{Said, last, of_key, each, filled, said_by}
use Rattle.job_text.specs.Faults.{chan_fault, clock_fault, poly_fault, row_fault, word_fault, fields_fault, line_fault}
use Rattle.job_text.specs.Answer.{faults_behind, first_fault, job_by, rows_in, answer_behind, job_in}
use Rattle.sample_job.proofs.Said.{begin, poly_1, poly_2, clock_3, station_0, station_1, station_2, station_3, stations, bare_of, job_with}

-- the lines before the scan's, and those behind it
abbrev pub front : List (List ℕ)
front =
    codes "lags 32"
    ∷ codes "integration 160000"
    ∷ codes "epoch 50000"
    ∷ codes "knot 1000"
    ∷ codes "station S0 0 2 2 8032"
    ∷ codes "file S0 s0.vdif"
    ∷ codes "chan S0 X0 0 0"
    ∷ codes "chan S0 X1 0 1"
    ∷ codes "station S1 1 2 2 8032"
    ∷ codes "file S1 s1.vdif"
    ∷ codes "chan S1 X0 0 0"
    ∷ codes "chan S1 X1 0 1"
    ∷ codes "station S2 2 2 2 8032"
    ∷ codes "file S2 s2.vdif"
    ∷ codes "chan S2 X0 0 0"
    ∷ codes "chan S2 X1 0 1"
    ∷ codes "station S3 3 2 2 8032"
    ∷ codes "file S3 s3.vdif"
    ∷ codes "chan S3 X0 0 0"
    ∷ codes "chan S3 X1 0 1"
    ∷ codes "poly S1 2010y001d00h00m00s 2147483648 900000000000000"
    ∷ codes "poly S2 2010y001d00h00m00s -6442450944 -900000000000000"
    ∷ codes "clock S3 2010y001d00h00m00s 4294967296 1000"
    ∷ codes "product X0 X0"
    ∷ codes "product X1 X1"
    ∷ codes "rate 160000"
    ∷ []

abbrev pub back : List (List ℕ)
back = codes "band X0 1600000000 U" ∷ codes "band X1 1600000000 L" ∷ []

-- the scan's line, and its fields behind the word
abbrev pub scan_line : ℕ → List ℕ
scan_line seconds = codes "scan G 2010y001d00h00m00s " ++ decimal (160000 * seconds)

abbrev pub scan_fields : ℕ → List (List ℕ)
scan_fields seconds = codes "G" ∷ codes "2010y001d00h00m00s" ∷ decimal (160000 * seconds) ∷ []

abbrev pub scan_row : ℕ → Row
scan_row seconds = record { word = ScanWord; fields = scan_fields seconds }

-- what is looked at in the text
pub record Seen : Type 0 where
  pub all : List (List ℕ)
  pub long : Bool
  pub clean : Bool
  pub fields : List (List ℕ)
  pub number : Result ℤ NumFault

abbrev pub seen_of : ℕ → Seen
seen_of seconds = record {
  all = lines (job_of seconds);
  long = nat_lt 4194304 (length (job_of seconds));
  clean = is_clean (scan_line seconds);
  fields = fields_of (scan_line seconds);
  number = decimal_of (decimal (160000 * seconds)) 0;
}

abbrev pub wanted_of : ℕ → Seen
wanted_of seconds = record {
  all = front ++ scan_line seconds ∷ back;
  long = false;
  clean = true;
  fields = codes "scan" ∷ scan_fields seconds;
  number = Ok (pos (160000 * seconds));
}

-- ---- the begin of 2010

new-year : days_from_civil (pos 2010) 1 1 ≡ pos 14610
unfolding days_of_years days_of_months day_count days_from_civil
new-year = refl

second-is : vex_second_of (codes "2010y001d00h00m00s") ≡ Ok begin
unfolding vex_second_of second_at is_time is_end has_form digits_at number_at
second-is = rw new-year refl

second : second_of (codes "2010y001d00h00m00s") ≡ Some begin
unfolding second_of
second = rw second-is refl

-- ---- what the lines with a time say

poly-1 : poly_in (codes "S1" ∷ codes "2010y001d00h00m00s" ∷ codes "2147483648" ∷ codes "900000000000000" ∷ []) ≡ Some poly_1
unfolding poly_in whole_of decimal_of is_number scaled moved_digits
poly-1 = rw second refl

poly-2 : poly_in (codes "S2" ∷ codes "2010y001d00h00m00s" ∷ codes "-6442450944" ∷ codes "-900000000000000" ∷ []) ≡ Some poly_2
unfolding poly_in whole_of decimal_of is_number scaled moved_digits
poly-2 = rw second refl

clock-3 : clock_in (codes "S3" ∷ codes "2010y001d00h00m00s" ∷ codes "4294967296" ∷ codes "1000" ∷ []) ≡ Some clock_3
unfolding clock_in whole_of decimal_of is_number scaled moved_digits
clock-3 = rw second refl

scan-in : (seconds : ℕ) → seconds ≤ 60 → decimal_of (decimal (160000 * seconds)) 0 ≡ Ok (pos (160000 * seconds))
    → scan_in (scan_fields seconds) ≡ Some (codes "G", record { second = begin; samples = 160000 * seconds })
unfolding scan_in number_within whole_of
scan-in seconds few number =
    rw (second, number, le-leb 0 (160000 * seconds) (omega arith), le-leb (160000 * seconds) 1099511627776 (omega arith)) refl

-- ---- lines without a fault

-- none of these lines has a fault, behind rows that stand before them
abbrev pub AreRight : List Row → List (List ℕ) → Type 0
AreRight before [] = Unit {0}
AreRight before (line ∷ more) =
    (line_fault true (said_by before) line ≡ None) × AreRight (before ++ option_to_list (row_of line)) more

no-fault : (n : ℕ) (before : List Row) (all : List (List ℕ)) → AreRight before all → first_fault n (faults_behind true before all) ≡ None
no-fault n before [] right = refl
no-fault n before (line ∷ more) right =
    ap (λ (fault : _). first_fault n (fault ∷ faults_behind true (before ++ option_to_list (row_of line)) more)) right.0
    ∙ no-fault (n + 1) (before ++ option_to_list (row_of line)) more right.1

right-row : (before : List Row) (line : List ℕ) (row : Row) (more : List (List ℕ)) → row_of line ≡ Some row → line_fault true (said_by before) line ≡ None
    → AreRight (before ++ row ∷ []) more → AreRight before (line ∷ more)
right-row before line row more is right rest =
    (right, subst (λ (r : Option Row). AreRight (before ++ option_to_list r) more) (sym is) rest)

scan-row : (seconds : ℕ) → fields_of (scan_line seconds) ≡ codes "scan" ∷ scan_fields seconds → row_of (scan_line seconds) ≡ Some (scan_row seconds)
scan-row seconds fields = ap row_from fields

scan-right : (seconds : ℕ) (said : Said) → said.scans ≡ [] → is_clean (scan_line seconds) ≡ true → fields_of (scan_line seconds) ≡ codes "scan" ∷ scan_fields seconds
    → decimal_of (decimal (160000 * seconds)) 0 ≡ Ok (pos (160000 * seconds)) → scan_in (scan_fields seconds) ≡ Some (codes "G", record { second = begin; samples = 160000 * seconds })
    → line_fault true said (scan_line seconds) ≡ None
unfolding line_fault fields_fault word_fault row_fault
scan-right seconds said none clean fields number scan =
    rw (clean, fields) (rw (second-is, number) (rw (none, scan) refl))

front-scans : (said_by (rows_in front)).scans ≡ []
unfolding said_by each
front-scans = refl

back-right : (seconds : ℕ) → AreRight (rows_in front ++ scan_row seconds ∷ []) back
unfolding line_fault fields_fault word_fault row_fault said_by each band_in number_within whole_of decimal_of is_number scaled moved_digits
back-right seconds = (refl, (refl, tt))

later-right : (seconds : ℕ) → seen_of seconds ≡ wanted_of seconds → seconds ≤ 60 → AreRight (rows_in front) (scan_line seconds ∷ back)
later-right seconds seen few =
    let clean = ap (λ (s : Seen). s.clean) seen in
    let fields = ap (λ (s : Seen). s.fields) seen in
    let number = ap (λ (s : Seen). s.number) seen in
    right-row (rows_in front) (scan_line seconds) (scan_row seconds) back (scan-row seconds fields)
    (scan-right seconds (said_by (rows_in front)) front-scans clean fields number (scan-in seconds few number)) (back-right seconds)

front-right : (more : List (List ℕ)) → AreRight (rows_in front) more → AreRight [] (front ++ more)
unfolding line_fault fields_fault word_fault row_fault chan_fault clock_fault poly_fault said_by each filled lags_in number_within whole_of station_in frame_bytes_in chan_in decimal_of is_number scaled moved_digits
front-right more rest =
    (refl, (refl, (refl, (refl, (refl, (refl, (refl, (refl, (refl, (refl, (refl, (refl, (refl, (refl, (refl, (refl, (refl, (refl, (refl, (refl, (rw (second-is, second, poly-1) refl, (rw (second-is, second, poly-2) refl, (rw (second-is, second, clock-3) refl, (refl, (refl, (refl, rest))))))))))))))))))))))))))

-- ---- the job

abbrev rows_of : ℕ → List Row
rows_of seconds = rows_in front ++ scan_row seconds ∷ rows_in back

-- the lines of one number
numbers-are : (seconds : ℕ) → (last (each Lags lags_in (rows_of seconds)) ≡ Some 32) × (last (each Integration integration_in (rows_of seconds)) ≡ Some 160000)
    × (last (each Epoch epoch_in (rows_of seconds)) ≡ Some 50000) × (last (each Knot knot_in (rows_of seconds)) ≡ Some 1000)
    × (last (each Rate rate_in (rows_of seconds)) ≡ Some 160000)
unfolding each lags_in number_within whole_of decimal_of is_number scaled moved_digits
numbers-are seconds = (refl, refl, refl, refl, refl)

bare-stations : (seconds : ℕ) → each Station station_in (rows_of seconds) ≡ map bare_of stations
unfolding each station_in frame_bytes_in number_within whole_of decimal_of is_number scaled moved_digits
bare-stations seconds = refl

products-are : (seconds : ℕ) → each {A = List ℕ × List ℕ} Product (λ fields. Some (field fields 0, field fields 1)) (rows_of seconds) ≡ (codes "X0", codes "X0") ∷ (codes "X1", codes "X1") ∷ []
unfolding each
products-are seconds = refl

takes-are : (seconds : ℕ) → each {A = List ℕ} Take (λ fields. Some (field fields 0)) (rows_of seconds) ≡ []
unfolding each
takes-are seconds = refl

bands-are : (seconds : ℕ) → each BandWord band_in (rows_of seconds) ≡ (job_with 0).bands
unfolding each band_in number_within whole_of decimal_of is_number scaled moved_digits
bands-are seconds = refl

scans-are : (seconds : ℕ) → scan_in (scan_fields seconds) ≡ Some (codes "G", record { second = begin; samples = 160000 * seconds })
    → each ScanWord scan_in (rows_of seconds) ≡ (job_with (160000 * seconds)).scans
unfolding each
scans-are seconds scan = rw scan refl

-- what the rows say of a station
abbrev FilesAre : List Row → StationFields → Type 0
FilesAre rows s = each File (of_key s.key (λ fields. Some (field fields 1))) rows ≡ s.files

abbrev ChansAre : List Row → StationFields → Type 0
ChansAre rows s = each Chan (of_key s.key (chan_in (2 ^ s.chans_log2))) rows ≡ s.chans

abbrev ClocksAre : List Row → StationFields → Type 0
ClocksAre rows s = each Clock (of_key s.key clock_in) rows ≡ s.clocks

abbrev PolysAre : List Row → StationFields → Type 0
PolysAre rows s = each Poly (of_key s.key poly_in) rows ≡ s.polys

filled-is : (rows : List Row) (s : StationFields) → FilesAre rows s → ChansAre rows s → ClocksAre rows s → PolysAre rows s → filled rows (bare_of s) ≡ s
unfolding filled
filled-is rows s files chans clocks polys = rw (files, chans, clocks, polys) refl

station-0 : (seconds : ℕ) → filled (rows_of seconds) (bare_of station_0) ≡ station_0
unfolding each chan_in number_within whole_of decimal_of is_number scaled moved_digits
station-0 seconds = filled-is (rows_of seconds) station_0 refl refl refl refl

station-1 : (seconds : ℕ) → filled (rows_of seconds) (bare_of station_1) ≡ station_1
unfolding each chan_in number_within whole_of decimal_of is_number scaled moved_digits
station-1 seconds = filled-is (rows_of seconds) station_1 refl refl refl (rw poly-1 refl)

station-2 : (seconds : ℕ) → filled (rows_of seconds) (bare_of station_2) ≡ station_2
unfolding each chan_in number_within whole_of decimal_of is_number scaled moved_digits
station-2 seconds = filled-is (rows_of seconds) station_2 refl refl refl (rw poly-2 refl)

station-3 : (seconds : ℕ) → filled (rows_of seconds) (bare_of station_3) ≡ station_3
unfolding each chan_in number_within whole_of decimal_of is_number scaled moved_digits
station-3 seconds = filled-is (rows_of seconds) station_3 refl refl (rw clock-3 refl) refl

map-four : (f : StationFields → StationFields) (g : StationFields → StationFields) (a b c d : StationFields) → f (g a) ≡ a → f (g b) ≡ b → f (g c) ≡ c → f (g d) ≡ d
    → map f (map g (a ∷ b ∷ c ∷ d ∷ [])) ≡ a ∷ b ∷ c ∷ d ∷ []
map-four f g a b c d p q r s = rw (p, q, r, s) refl

stations-are : (seconds : ℕ) → map (filled (rows_of seconds)) (each Station station_in (rows_of seconds)) ≡ stations
stations-are seconds =
    ap (map (filled (rows_of seconds))) (bare-stations seconds)
    ∙ map-four (filled (rows_of seconds)) bare_of station_0 station_1 station_2 station_3 (station-0 seconds) (station-1 seconds) (station-2 seconds) (station-3 seconds)

-- rows that say what a job has
record Say (rows : List Row) (job : JobFields) : Type 0 where
  lags : last (each Lags lags_in rows) ≡ Some job.lags
  integration : last (each Integration integration_in rows) ≡ Some job.integration
  epoch : last (each Epoch epoch_in rows) ≡ Some job.epoch
  knot : last (each Knot knot_in rows) ≡ Some job.knot
  auto : list_any (λ row. are_one row.word Auto) rows ≡ job.auto
  rate : last (each Rate rate_in rows) ≡ job.rate
  stations_are : map (filled rows) (each Station station_in rows) ≡ job.stations
  products : each {A = List ℕ × List ℕ} Product (λ fields. Some (field fields 0, field fields 1)) rows ≡ job.products
  takes : each {A = List ℕ} Take (λ fields. Some (field fields 0)) rows ≡ job.takes
  scans : each ScanWord scan_in rows ≡ job.scans
  bands : each BandWord band_in rows ≡ job.bands

abbrev said_of : JobFields → Said
said_of job = record {
  lags = Some job.lags;
  integration = Some job.integration;
  epoch = Some job.epoch;
  knot = Some job.knot;
  auto = job.auto;
  rate = job.rate;
  stations = job.stations;
  products = job.products;
  takes = job.takes;
  scans = job.scans;
  bands = job.bands;
}

said-is : (rows : List Row) (job : JobFields) → Say rows job → said_by rows ≡ said_of job
unfolding said_by
said-is rows job s =
    rw (s.lags, s.integration, s.epoch, s.knot, s.auto, s.rate, s.stations_are, s.products, s.takes, s.scans, s.bands) refl

job-said : (samples : ℕ) → job_by true (said_of (job_with samples)) ≡ Some (job_with samples)
unfolding job_by
job-said samples = refl

rows-say : (seconds : ℕ) → scan_in (scan_fields seconds) ≡ Some (codes "G", record { second = begin; samples = 160000 * seconds })
    → Say (rows_of seconds) (job_with (160000 * seconds))
rows-say seconds scan = record {
  lags = (numbers-are seconds).0;
  integration = (numbers-are seconds).1;
  epoch = (numbers-are seconds).2;
  knot = (numbers-are seconds).3;
  auto = refl;
  rate = (numbers-are seconds).4;
  stations_are = stations-are seconds;
  products = products-are seconds;
  takes = takes-are seconds;
  scans = scans-are seconds scan;
  bands = bands-are seconds;
}

filter_map-here : {A B : Type 0} (f : A → Option B) (x : A) (y : B) (xs : List A) → f x ≡ Some y → filter_map f (x ∷ xs) ≡ y ∷ filter_map f xs
filter_map-here f x y xs is = rw is refl

rows-are : (seconds : ℕ) → row_of (scan_line seconds) ≡ Some (scan_row seconds) → rows_in (front ++ scan_line seconds ∷ back) ≡ rows_of seconds
rows-are seconds row =
    filter_map-append row_of front (scan_line seconds ∷ back)
    ∙ ap (λ (r : List Row). rows_in front ++ r) (filter_map-here row_of (scan_line seconds) (scan_row seconds) back row)

pub job-read : (seconds : ℕ) → seen_of seconds ≡ wanted_of seconds → seconds ≤ 60 → job_in true (job_of seconds) ≡ Ok (job_with (160000 * seconds))
unfolding job_in
job-read seconds seen few =
    let all = ap (λ (s : Seen). s.all) seen in
    let fields = ap (λ (s : Seen). s.fields) seen in
    let number = ap (λ (s : Seen). s.number) seen in
    let right = no-fault 1 [] (front ++ scan_line seconds ∷ back) (front-right (scan_line seconds ∷ back) (later-right seconds seen few)) in
    let rows = rows-are seconds (scan-row seconds fields) in
    let job = ap (λ (r : List Row). job_by true (said_by r)) rows
    ∙ ap (job_by true) (said-is (rows_of seconds) (job_with (160000 * seconds)) (rows-say seconds (scan-in seconds few number)))
    ∙ job-said (160000 * seconds) in
    let faults = ap (λ (a : List (List ℕ)). first_fault 1 (faults_behind true [] a)) all ∙ right in
    let read = ap (λ (a : List (List ℕ)). job_by true (said_by (rows_in a))) all ∙ job in
    ap (λ (f : Option JobFault). answer_behind f (job_by true (said_by (rows_in (lines (job_of seconds)))))) faults
    ∙ ap (answer_behind None) read
