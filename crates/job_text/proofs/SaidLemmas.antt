-- What one more row adds to what rows say.
use Rattle.std.proofs.Common.{◌≡◌, ℕ, ◌^◌, Bool, true, false, cond, ◌&&◌, ◌||◌, eqb, nat_lt, List, [], ◌∷◌, ◌++◌, length, map, Option, Some, None, is_some, option_to_list, filter_map, fold, refl, sym, ap, ◌∙◌, bytes_eq}
use Rattle.std.specs.List.{list_any, cons_option}
use Rattle.std.specs.Option.{option_map_or}
use Rattle.std.proofs.lemmas.List.{map-append, append-nil}
use Rattle.std.proofs.lemmas.List.Elements.{filter_map-append}
use Rattle.std.proofs.lemmas.List.Folds.{list_any-append}
use Rattle.std.proofs.lemmas.Bool.Decides.{Decides-eqb}
use Rattle.job_lines.specs.Words.{are_one, number_of}
use Rattle.job_lines.specs.Rows.{Row}
use Rattle.job_lines.specs.declared.word.Word.{Word}
use Rattle.job_lines.specs.declared.word.Word.TheVariants.{Lags, Integration, Epoch, Knot, Auto, Station, File, Chan, Clock, Poly, Product, Take, Rate, Scan, Band}
use Rattle.job_text.specs.declared.fault.JobKind.{JobKind}
use Rattle.job_text.specs.declared.fault.JobKind.TheVariants.{Unknown}
use Rattle.job_text.specs.Job.{StationFields}
use Rattle.job_text.specs.Values.{◌>>=◌, name_fits, number_within, width_in, log2_of, frame_bytes_in, field, lags_in, integration_in, epoch_in, knot_in, station_in, chan_in, clock_in, poly_in, rate_in, scan_in, band_in}
use Rattle.job_text.specs.Said.{Said, said_by, each, last, of_key, filled}
use Rattle.job_text.specs.Faults.{row_fault, double_or_range, station_with, station_fault, chan_fault, clock_fault, poly_fault}
use Rattle.job_text.specs.Growing.{grown, changed, with_file, with_chan, with_clock, with_poly}
use Rattle.job_text.proofs.NameLemmas.{name_from}

-- what the fields behind a word add to what rows of another word say
abbrev more : {A : Type 0} → Word → Word → (List (List ℕ) → Option A) → List (List ℕ) → List A
more w v read fields = option_to_list (cond (are_one w v) (read fields) None)

abbrev row : Word → List (List ℕ) → Row
row w fields = record { word = w; fields = fields }

-- what the lines of files, of products and of takes say
abbrev file_in : List (List ℕ) → Option (List ℕ)
file_in fields = Some (field fields 1)

abbrev product_in : List (List ℕ) → Option (List ℕ × List ℕ)
product_in fields = Some (field fields 0, field fields 1)

abbrev take_in : List (List ℕ) → Option (List ℕ)
take_in fields = Some (field fields 0)

each-push : {A : Type 0} (v : Word) (read : List (List ℕ) → Option A) (rows : List Row) (w : Word) (fields : List (List ℕ))
    → each v read (rows ++ row w fields ∷ []) ≡ each v read rows ++ more w v read fields
unfolding each
each-push {A} v read rows w fields =
    filter_map-append (λ r. cond (are_one r.word v) (read r.fields) None) rows (row w fields ∷ [])
    ∙ ap (λ xs. filter_map (λ r. cond (are_one r.word v) (read r.fields) None) rows ++ xs) (by (cond (are_one w v) (read fields) None))
  where
    by : (o : Option A) → cons_option o [] ≡ option_to_list o
    by None = refl
    by (Some x) = refl

last_from : {A : Type 0} (a : Option A) (xs : List A) (x : A) → fold (λ _ y. Some y) a (xs ++ x ∷ []) ≡ Some x
last_from a [] x = refl
last_from a (y ∷ ys) x = last_from (Some y) ys x

last-said : {A : Type 0} (v : Word) (read : List (List ℕ) → Option A) (rows : List Row) (fields : List (List ℕ))
    → double_or_range (is_some (last (each v read rows))) (read fields) ≡ None → last (each v read rows ++ option_to_list (read fields)) ≡ read fields
last-said {A} v read rows fields h = by (each v read rows) (read fields) (is_some (last (each v read rows))) h
  where
    by : (xs : List A) (o : Option A) (again : Bool) → double_or_range again o ≡ None → last (xs ++ option_to_list o) ≡ o
    by xs (Some x) again h = last_from None xs x
    by xs None true h = absurd cc
    by xs None false h = absurd cc

said_some : {A : Type 0} (o : Option A) (again : Bool) → double_or_range again o ≡ None → again ≡ false
said_some o true h = absurd cc
said_some o false h = refl

-- a word whose rows name a station first
abbrev keyed_number : ℕ → Bool
keyed_number n = eqb n 6 || (eqb n 7 || (eqb n 8 || eqb n 9))

abbrev pub is_keyed : Word → Bool
is_keyed w = keyed_number (number_of w)

or_left : (a b : Bool) → (a || b) ≡ false → a ≡ false
or_left true b h = absurd cc
or_left false b h = refl

or_right : (a b : Bool) → (a || b) ≡ false → b ≡ false
or_right true b h = absurd cc
or_right false b h = h

-- a station with one more row
filled-push : (rows : List Row) (w : Word) (fields : List (List ℕ)) (s : StationFields) → filled (rows ++ row w fields ∷ []) s ≡ record s {
  files = each File (of_key s.key file_in) rows ++ more w File (of_key s.key file_in) fields;
  chans = each Chan (of_key s.key (chan_in (2 ^ s.chans_log2))) rows ++ more w Chan (of_key s.key (chan_in (2 ^ s.chans_log2))) fields;
  clocks = each Clock (of_key s.key clock_in) rows ++ more w Clock (of_key s.key clock_in) fields;
  polys = each Poly (of_key s.key poly_in) rows ++ more w Poly (of_key s.key poly_in) fields;
}
unfolding filled
filled-push rows w fields s = λ i. record s {
  files = each-push File (of_key s.key file_in) rows w fields i;
  chans = each-push Chan (of_key s.key (chan_in (2 ^ s.chans_log2))) rows w fields i;
  clocks = each-push Clock (of_key s.key clock_in) rows w fields i;
  polys = each-push Poly (of_key s.key poly_in) rows w fields i;
}

-- a station with nothing behind each of its lists
abbrev unfilled : List Row → StationFields → StationFields
unfilled rows s = record (filled rows s) {
  files = (filled rows s).files ++ [];
  chans = (filled rows s).chans ++ [];
  clocks = (filled rows s).clocks ++ [];
  polys = (filled rows s).polys ++ [];
}

unfilled-is : (rows : List Row) (s : StationFields) → unfilled rows s ≡ filled rows s
unfilled-is rows s = λ i. record (filled rows s) {
  files = append-nil (filled rows s).files i;
  chans = append-nil (filled rows s).chans i;
  clocks = append-nil (filled rows s).clocks i;
  polys = append-nil (filled rows s).polys i;
}

-- a row that names no station first says nothing of one
filled-other : (rows : List Row) (w : Word) (fields : List (List ℕ)) (s : StationFields) → is_keyed w ≡ false → filled (rows ++ row w fields ∷ []) s ≡ filled rows s
unfolding filled
filled-other rows w fields s other =
    let no_file : are_one w File ≡ false = or_left (eqb (number_of w) 6) (eqb (number_of w) 7 || (eqb (number_of w) 8 || eqb (number_of w) 9)) other in
    let behind_file : (eqb (number_of w) 7 || (eqb (number_of w) 8 || eqb (number_of w) 9)) ≡ false = or_right (eqb (number_of w) 6) (eqb (number_of w) 7 || (eqb (number_of w) 8 || eqb (number_of w) 9)) other in
    let no_chan : are_one w Chan ≡ false = or_left (eqb (number_of w) 7) (eqb (number_of w) 8 || eqb (number_of w) 9) behind_file in
    let behind_chan : (eqb (number_of w) 8 || eqb (number_of w) 9) ≡ false = or_right (eqb (number_of w) 7) (eqb (number_of w) 8 || eqb (number_of w) 9) behind_file in
    let no_clock : are_one w Clock ≡ false = or_left (eqb (number_of w) 8) (eqb (number_of w) 9) behind_chan in
    let no_poly : are_one w Poly ≡ false = or_right (eqb (number_of w) 8) (eqb (number_of w) 9) behind_chan in
    let unadded : filled (rows ++ row w fields ∷ []) s ≡ unfilled rows s =
    filled-push rows w fields s ∙ (λ i. record s {
      files = each File (of_key s.key file_in) rows ++ option_to_list (cond (no_file i) (of_key s.key file_in fields) None);
      chans = each Chan (of_key s.key (chan_in (2 ^ s.chans_log2))) rows ++ option_to_list (cond (no_chan i) (of_key s.key (chan_in (2 ^ s.chans_log2)) fields) None);
      clocks = each Clock (of_key s.key clock_in) rows ++ option_to_list (cond (no_clock i) (of_key s.key clock_in fields) None);
      polys = each Poly (of_key s.key poly_in) rows ++ option_to_list (cond (no_poly i) (of_key s.key poly_in fields) None);
    }) in
    unadded ∙ unfilled-is rows s

-- one more row that names a station first changes that station alone
abbrev Changes : Word → (List (List ℕ) → StationFields → StationFields) → Type 0
Changes w change = (rows : List Row) (fields : List (List ℕ)) (s : StationFields)
    → filled (rows ++ row w fields ∷ []) s ≡ cond (bytes_eq (filled rows s).key (field fields 0)) (change fields (filled rows s)) (filled rows s)

-- what is put behind one of a station's lists where the row names the station
one-more : {A : Type 0} (rows : List Row) (s : StationFields) (names : Bool) (put : StationFields → List A → StationFields) (xs : List A) (o : Option A)
    → put (unfilled rows s) (xs ++ option_to_list (cond names o None)) ≡ cond names (put (filled rows s) (xs ++ option_to_list o)) (put (filled rows s) xs)
one-more {A} rows s names put xs o = (λ i. put (unfilled-is rows s i) (xs ++ option_to_list (cond names o None))) ∙ by names
  where
    by : (b : Bool) → put (filled rows s) (xs ++ option_to_list (cond b o None)) ≡ cond b (put (filled rows s) (xs ++ option_to_list o)) (put (filled rows s) xs)
    by true = refl
    by false = ap (put (filled rows s)) (append-nil xs)

filled-File : Changes File with_file
unfolding filled
filled-File rows fields s = filled-push rows File fields s ∙ one-more rows s (bytes_eq s.key (field fields 0)) (λ t xs. record t { files = xs }) (filled rows s).files (file_in fields)

filled-Chan : Changes Chan with_chan
unfolding filled
filled-Chan rows fields s = filled-push rows Chan fields s ∙ one-more rows s (bytes_eq s.key (field fields 0)) (λ t xs. record t { chans = xs }) (filled rows s).chans (chan_in (2 ^ s.chans_log2) fields)

filled-Clock : Changes Clock with_clock
unfolding filled
filled-Clock rows fields s = filled-push rows Clock fields s ∙ one-more rows s (bytes_eq s.key (field fields 0)) (λ t xs. record t { clocks = xs }) (filled rows s).clocks (clock_in fields)

filled-Poly : Changes Poly with_poly
unfolding filled
filled-Poly rows fields s = filled-push rows Poly fields s ∙ one-more rows s (bytes_eq s.key (field fields 0)) (λ t xs. record t { polys = xs }) (filled rows s).polys (poly_in fields)

-- the stations with that of a key changed, one by one
changed-map : (g f : StationFields → StationFields) (h : StationFields → StationFields) (key : List ℕ) (xs : List StationFields)
    → ((s : StationFields) → g s ≡ cond (bytes_eq (f s).key key) (h (f s)) (f s)) → map g xs ≡ changed (map f xs) key h
changed-map g f h key [] each_is = refl
changed-map g f h key (x ∷ xs) each_is = λ i. each_is x i ∷ changed-map g f h key xs each_is i

-- some row names a station of this key first
abbrev pub names_key : List ℕ → List Row → Bool
names_key key rows = list_any (λ r. is_keyed r.word && bytes_eq key (field r.fields 0)) rows

-- each station that rows name is stated by one of them
abbrev pub AreKnown : List Row → Type 0
AreKnown rows = (key : List ℕ) → station_with (said_by rows).stations key ≡ None → names_key key rows ≡ false

-- where no row names a key, the rows say nothing of its station
none-of : {A : Type 0} (v : Word) (read : List (List ℕ) → Option A) (key : List ℕ) (rows : List Row) → is_keyed v ≡ true → names_key key rows ≡ false → each v (of_key key read) rows ≡ []
unfolding each
none-of v read key [] keyed none = refl
none-of {A} v read key (r ∷ rows) keyed none =
    by (are_one r.word v) refl (bytes_eq key (field r.fields 0)) refl (none-of v read key rows keyed (or_right (is_keyed r.word && bytes_eq key (field r.fields 0)) (names_key key rows) none))
  where
    here : (is_keyed r.word && bytes_eq key (field r.fields 0)) ≡ false
    here = or_left (is_keyed r.word && bytes_eq key (field r.fields 0)) (names_key key rows) none

    by : (a : Bool) → are_one r.word v ≡ a → (b : Bool) → bytes_eq key (field r.fields 0) ≡ b → each v (of_key key read) rows ≡ [] → each v (of_key key read) (r ∷ rows) ≡ []
    by true one true names rest =
        let number : number_of r.word ≡ number_of v = (Decides-eqb (number_of r.word) (number_of v)).0 one in
        let it : is_keyed r.word ≡ true = ap keyed_number number ∙ keyed in
        let both : (is_keyed r.word && bytes_eq key (field r.fields 0)) ≡ true = (λ i. it i && names i) in
        let odd : true ≡ false = sym both ∙ here in absurd cc
    by true one false names rest = rw (one, names) rest
    by false one b names rest = rw one rest

-- what rows say of a station that no row names
filled-none : (rows : List Row) (s : StationFields) → names_key s.key rows ≡ false → filled rows s ≡ record s { files = []; chans = []; clocks = []; polys = [] }
unfolding filled
filled-none rows s none = λ i. record s {
  files = none-of File file_in s.key rows refl none i;
  chans = none-of Chan (chan_in (2 ^ s.chans_log2)) s.key rows refl none i;
  clocks = none-of Clock clock_in s.key rows refl none i;
  polys = none-of Poly poly_in s.key rows refl none i;
}

or_false : (b : Bool) → (b || false) ≡ b
or_false true = refl
or_false false = refl

or_true : (b : Bool) → (b || true) ≡ true
or_true true = refl
or_true false = refl

none_from : {A : Type 0} (o : Option A) → is_some o ≡ false → o ≡ None
none_from None h = refl
none_from (Some x) h = absurd cc

-- a stated station has its line's key, and no line says more of it yet
abbrev IsBare : List (List ℕ) → Option StationFields → Type 0
IsBare fields None = Unit {0}
IsBare fields (Some s) = (s.key ≡ field fields 0) × (record s { files = []; chans = []; clocks = []; polys = [] } ≡ s)

station-bare : (fields : List (List ℕ)) → IsBare fields (station_in fields)
unfolding station_in
station-bare fields = by (number_within 0 65535 (field fields 1)) (width_in (field fields 2)) (number_within 1 64 (field fields 3))
  where
    at_frame : (id bits log2 : ℕ) (o : Option ℕ) (b : Bool) → IsBare fields (o >>= (λ n. cond b (Some (record { key = field fields 0; id = id; bits = bits; chans_log2 = log2; frame_bytes = n; legacy = nat_lt 5 (length fields); files = []; chans = []; clocks = []; polys = [] })) None))
    at_frame id bits log2 None b = tt
    at_frame id bits log2 (Some n) true = (refl, refl)
    at_frame id bits log2 (Some n) false = tt

    at_log2 : (id bits chans : ℕ) (o : Option ℕ) → IsBare fields (o >>= (λ log2. frame_bytes_in (nat_lt 5 (length fields)) bits chans (field fields 4) >>= (λ n. cond (name_fits (field fields 0)) (Some (record { key = field fields 0; id = id; bits = bits; chans_log2 = log2; frame_bytes = n; legacy = nat_lt 5 (length fields); files = []; chans = []; clocks = []; polys = [] })) None)))
    at_log2 id bits chans None = tt
    at_log2 id bits chans (Some log2) = at_frame id bits log2 (frame_bytes_in (nat_lt 5 (length fields)) bits chans (field fields 4)) (name_fits (field fields 0))

    by : (a b c : Option ℕ) → IsBare fields (a >>= (λ id. b >>= (λ bits. c >>= (λ chans. log2_of chans >>= (λ log2. frame_bytes_in (nat_lt 5 (length fields)) bits chans (field fields 4) >>= (λ n. cond (name_fits (field fields 0)) (Some (record { key = field fields 0; id = id; bits = bits; chans_log2 = log2; frame_bytes = n; legacy = nat_lt 5 (length fields); files = []; chans = []; clocks = []; polys = [] })) None))))))
    by None b c = tt
    by (Some id) None c = tt
    by (Some id) (Some bits) None = tt
    by (Some id) (Some bits) (Some chans) = at_log2 id bits chans (log2_of chans)

stated : (rows : List Row) (fields : List (List ℕ)) (o : Option StationFields) → IsBare fields o → names_key (field fields 0) rows ≡ false → map (filled rows) (option_to_list o) ≡ option_to_list o
stated rows fields None bare none = refl
stated rows fields (Some s) bare none =
    let none_here : names_key s.key rows ≡ false = rw bare.0 none in
    ap (λ t. t ∷ []) (filled-none rows s none_here ∙ bare.1)

said-step : (rows : List Row) (w : Word) (fields : List (List ℕ)) → said_by (rows ++ row w fields ∷ []) ≡ record {
  lags = last (each Lags lags_in rows ++ more w Lags lags_in fields);
  integration = last (each Integration integration_in rows ++ more w Integration integration_in fields);
  epoch = last (each Epoch epoch_in rows ++ more w Epoch epoch_in fields);
  knot = last (each Knot knot_in rows ++ more w Knot knot_in fields);
  auto = list_any (λ r. are_one r.word Auto) rows || (are_one w Auto || false);
  rate = last (each Rate rate_in rows ++ more w Rate rate_in fields);
  stations = map (filled (rows ++ row w fields ∷ [])) (each Station station_in rows ++ more w Station station_in fields);
  products = each Product product_in rows ++ more w Product product_in fields;
  takes = each Take take_in rows ++ more w Take take_in fields;
  scans = each Scan scan_in rows ++ more w Scan scan_in fields;
  bands = each Band band_in rows ++ more w Band band_in fields;
}
unfolding said_by
said-step rows w fields = λ i. record {
  lags = last (each-push Lags lags_in rows w fields i);
  integration = last (each-push Integration integration_in rows w fields i);
  epoch = last (each-push Epoch epoch_in rows w fields i);
  knot = last (each-push Knot knot_in rows w fields i);
  auto = list_any-append (λ r. are_one r.word Auto) rows (row w fields ∷ []) i;
  rate = last (each-push Rate rate_in rows w fields i);
  stations = map (filled (rows ++ row w fields ∷ [])) (each-push Station station_in rows w fields i);
  products = each-push Product product_in rows w fields i;
  takes = each-push Take take_in rows w fields i;
  scans = each-push Scan scan_in rows w fields i;
  bands = each-push Band band_in rows w fields i;
}

-- what rows say with nothing behind each part, beside these stations
abbrev unsaid : List Row → List StationFields → Said
unsaid rows stations = record {
  lags = last (each Lags lags_in rows ++ []);
  integration = last (each Integration integration_in rows ++ []);
  epoch = last (each Epoch epoch_in rows ++ []);
  knot = last (each Knot knot_in rows ++ []);
  auto = list_any (λ r. are_one r.word Auto) rows || false;
  rate = last (each Rate rate_in rows ++ []);
  stations = stations;
  products = each Product product_in rows ++ [];
  takes = each Take take_in rows ++ [];
  scans = each Scan scan_in rows ++ [];
  bands = each Band band_in rows ++ [];
}

unsaid-is : (rows : List Row) (old new : List StationFields) → old ≡ new → unsaid rows old ≡ record (said_by rows) { stations = new }
unfolding said_by
unsaid-is rows old new same = λ i. record {
  lags = last (append-nil (each Lags lags_in rows) i);
  integration = last (append-nil (each Integration integration_in rows) i);
  epoch = last (append-nil (each Epoch epoch_in rows) i);
  knot = last (append-nil (each Knot knot_in rows) i);
  auto = or_false (list_any (λ r. are_one r.word Auto) rows) i;
  rate = last (append-nil (each Rate rate_in rows) i);
  stations = same i;
  products = append-nil (each Product product_in rows) i;
  takes = append-nil (each Take take_in rows) i;
  scans = append-nil (each Scan scan_in rows) i;
  bands = append-nil (each Band band_in rows) i;
}

-- the stations that rows say, each with one more row
abbrev with_row : List Row → Word → List (List ℕ) → List StationFields
with_row rows w fields = map (filled (rows ++ row w fields ∷ [])) (each Station station_in rows ++ [])

-- a row that names no station first leaves all stations
said-other : (rows : List Row) (w : Word) (fields : List (List ℕ)) → is_keyed w ≡ false → unsaid rows (with_row rows w fields) ≡ said_by rows
unfolding said_by
said-other rows w fields other = unsaid-is rows (with_row rows w fields) (map (filled rows) (each Station station_in rows)) (λ i. map (λ s. filled-other rows w fields s other i) (append-nil (each Station station_in rows) i))

-- a row that names a station first changes its station alone
said-keyed : (rows : List Row) (w : Word) (fields : List (List ℕ)) (change : List (List ℕ) → StationFields → StationFields) → Changes w change
    → unsaid rows (with_row rows w fields) ≡ record (said_by rows) { stations = changed (said_by rows).stations (field fields 0) (change fields) }
unfolding said_by
said-keyed rows w fields change changes =
    unsaid-is rows (with_row rows w fields) (changed (map (filled rows) (each Station station_in rows)) (field fields 0) (change fields))
    (ap (map (filled (rows ++ row w fields ∷ []))) (append-nil (each Station station_in rows))
    ∙ changed-map (filled (rows ++ row w fields ∷ [])) (filled rows) (change fields) (field fields 0) (each Station station_in rows) (changes rows fields))

-- a row that states a station, whose key no row before it names
said-station : (rows : List Row) (fields : List (List ℕ)) → names_key (field fields 0) rows ≡ false
    → map (filled (rows ++ row Station fields ∷ [])) (each Station station_in rows ++ option_to_list (station_in fields)) ≡ map (filled rows) (each Station station_in rows) ++ option_to_list (station_in fields)
said-station rows fields none =
    (λ i. map (λ s. filled-other rows Station fields s refl i) (each Station station_in rows ++ option_to_list (station_in fields)))
    ∙ map-append (filled rows) (each Station station_in rows) (option_to_list (station_in fields))
    ∙ ap (λ xs. map (filled rows) (each Station station_in rows) ++ xs) (stated rows fields (station_in fields) (station-bare fields) none)

-- Behind rows that stand together, one more row without a fault adds what it says.
pub said-push : (rows : List Row) (w : Word) (fields : List (List ℕ)) → AreKnown rows → row_fault (said_by rows) w fields ≡ None → said_by (rows ++ row w fields ∷ []) ≡ grown (said_by rows) w fields
unfolding said_by grown row_fault
said-push rows Lags fields known h = said-step rows Lags fields ∙ (λ i. record (said-other rows Lags fields refl i) { lags = last-said Lags lags_in rows fields h i })
said-push rows Integration fields known h = said-step rows Integration fields ∙ (λ i. record (said-other rows Integration fields refl i) { integration = last-said Integration integration_in rows fields h i })
said-push rows Epoch fields known h = said-step rows Epoch fields ∙ (λ i. record (said-other rows Epoch fields refl i) { epoch = last-said Epoch epoch_in rows fields h i })
said-push rows Knot fields known h = said-step rows Knot fields ∙ (λ i. record (said-other rows Knot fields refl i) { knot = last-said Knot knot_in rows fields h i })
said-push rows Auto fields known h = said-step rows Auto fields ∙ (λ i. record (said-other rows Auto fields refl i) { auto = or_true (list_any (λ r. are_one r.word Auto) rows) i })
said-push rows Station fields known h =
    let none : names_key (field fields 0) rows ≡ false = known (field fields 0) (none_from (station_with (said_by rows).stations (field fields 0)) (said_some (station_in fields) (is_some (station_with (said_by rows).stations (field fields 0))) h)) in
    said-step rows Station fields ∙ (λ i. record (unsaid-is rows [] [] refl i) { stations = said-station rows fields none i })
said-push rows File fields known h = said-step rows File fields ∙ said-keyed rows File fields with_file filled-File
said-push rows Chan fields known h = said-step rows Chan fields ∙ said-keyed rows Chan fields with_chan filled-Chan
said-push rows Clock fields known h = said-step rows Clock fields ∙ said-keyed rows Clock fields with_clock filled-Clock
said-push rows Poly fields known h = said-step rows Poly fields ∙ said-keyed rows Poly fields with_poly filled-Poly
said-push rows Product fields known h = said-step rows Product fields ∙ (λ i. record (said-other rows Product fields refl i) { products = each Product product_in rows ++ option_to_list (product_in fields) })
said-push rows Take fields known h = said-step rows Take fields ∙ (λ i. record (said-other rows Take fields refl i) { takes = each Take take_in rows ++ option_to_list (take_in fields) })
said-push rows Rate fields known h = said-step rows Rate fields ∙ (λ i. record (said-other rows Rate fields refl i) { rate = last-said Rate rate_in rows fields h i })
said-push rows Scan fields known h = said-step rows Scan fields ∙ (λ i. record (said-other rows Scan fields refl i) { scans = each Scan scan_in rows ++ option_to_list (scan_in fields) })
said-push rows Band fields known h = said-step rows Band fields ∙ (λ i. record (said-other rows Band fields refl i) { bands = each Band band_in rows ++ option_to_list (band_in fields) })

find-append : (xs ys : List StationFields) (key : List ℕ) → station_with (xs ++ ys) key ≡ None → station_with xs key ≡ None
find-append [] ys key h = refl
find-append (x ∷ xs) ys key h = by (bytes_eq x.key key) refl (find-append xs ys key)
  where
    by : (b : Bool) → bytes_eq x.key key ≡ b → (station_with (xs ++ ys) key ≡ None → station_with xs key ≡ None) → station_with (x ∷ xs) key ≡ None
    by true e rest = let odd : station_with (x ∷ (xs ++ ys)) key ≡ Some x = rw e refl in let both : Some x ≡ None = sym odd ∙ h in absurd cc
    by false e rest = rw e (rest ((λ i. cond (sym e i) (Some x) (station_with (xs ++ ys) key)) ∙ h))

find-changed : (xs : List StationFields) (k key : List ℕ) (f : StationFields → StationFields) → ((s : StationFields) → (f s).key ≡ s.key) → station_with (changed xs k f) key ≡ None → station_with xs key ≡ None
find-changed [] k key f keeps_key h = refl
find-changed (x ∷ xs) k key f keeps_key h = by (bytes_eq x.key key) refl (find-changed xs k key f keeps_key)
  where
    y : StationFields
    y = cond (bytes_eq x.key k) (f x) x

    key_of : (b : Bool) → (cond b (f x) x).key ≡ x.key
    key_of true = keeps_key x
    key_of false = refl

    by : (b : Bool) → bytes_eq x.key key ≡ b → (station_with (changed xs k f) key ≡ None → station_with xs key ≡ None) → station_with (x ∷ xs) key ≡ None
    by true e rest =
        let test : bytes_eq (cond (bytes_eq x.key k) (f x) x).key key ≡ true = ap (λ n. bytes_eq n key) (key_of (bytes_eq x.key k)) ∙ e in
        let odd : station_with (changed (x ∷ xs) k f) key ≡ Some (cond (bytes_eq x.key k) (f x) x) = (λ i. cond (test i) (Some (cond (bytes_eq x.key k) (f x) x)) (station_with (changed xs k f) key)) in
        let both : Some (cond (bytes_eq x.key k) (f x) x) ≡ None = sym odd ∙ h in absurd cc
    by false e rest =
        let test : bytes_eq (cond (bytes_eq x.key k) (f x) x).key key ≡ false = ap (λ n. bytes_eq n key) (key_of (bytes_eq x.key k)) ∙ e in
        rw e (rest ((λ i. cond (sym test i) (Some (cond (bytes_eq x.key k) (f x) x)) (station_with (changed xs k f) key)) ∙ h))

-- a key that no station has behind a row had none before it
grown-none : (said : Said) (w : Word) (fields : List (List ℕ)) (key : List ℕ) → station_with (grown said w fields).stations key ≡ None → station_with said.stations key ≡ None
unfolding grown
grown-none said Lags fields key h = h
grown-none said Integration fields key h = h
grown-none said Epoch fields key h = h
grown-none said Knot fields key h = h
grown-none said Auto fields key h = h
grown-none said Station fields key h = find-append said.stations (option_to_list (station_in fields)) key h
grown-none said File fields key h = find-changed said.stations (field fields 0) key (with_file fields) (λ s. refl) h
grown-none said Chan fields key h = find-changed said.stations (field fields 0) key (with_chan fields) (λ s. refl) h
grown-none said Clock fields key h = find-changed said.stations (field fields 0) key (with_clock fields) (λ s. refl) h
grown-none said Poly fields key h = find-changed said.stations (field fields 0) key (with_poly fields) (λ s. refl) h
grown-none said Product fields key h = h
grown-none said Take fields key h = h
grown-none said Rate fields key h = h
grown-none said Scan fields key h = h
grown-none said Band fields key h = h

known_key : (stations : List StationFields) (fields : List (List ℕ)) (fault : StationFields → Option JobKind) (key : List ℕ) → station_fault stations fields fault ≡ None → station_with stations key ≡ None → bytes_eq key (field fields 0) ≡ false
known_key stations fields fault key h none = by (bytes_eq key (field fields 0)) refl
  where
    by : (b : Bool) → bytes_eq key (field fields 0) ≡ b → b ≡ false
    by false e = refl
    by true e =
        let same : key ≡ field fields 0 = name_from key (field fields 0) e in
        let none_here : station_with stations (field fields 0) ≡ None = ap (station_with stations) (sym same) ∙ none in
        let refused : station_fault stations fields fault ≡ Some Unknown = ap (λ o. option_map_or fault o (Some Unknown)) none_here in
        let both : Some Unknown ≡ None = sym refused ∙ h in absurd cc

-- a row without a fault names a station that is stated
names-known : (said : Said) (w : Word) (fields : List (List ℕ)) (key : List ℕ) → row_fault said w fields ≡ None → station_with said.stations key ≡ None → (is_keyed w && bytes_eq key (field fields 0)) ≡ false
unfolding row_fault
names-known said Lags fields key h none = refl
names-known said Integration fields key h none = refl
names-known said Epoch fields key h none = refl
names-known said Knot fields key h none = refl
names-known said Auto fields key h none = refl
names-known said Station fields key h none = refl
names-known said File fields key h none = known_key said.stations fields (λ s. None) key h none
names-known said Chan fields key h none = known_key said.stations fields (chan_fault fields) key h none
names-known said Clock fields key h none = known_key said.stations fields (clock_fault fields) key h none
names-known said Poly fields key h none = known_key said.stations fields (poly_fault fields) key h none
names-known said Product fields key h none = refl
names-known said Take fields key h none = refl
names-known said Rate fields key h none = refl
names-known said Scan fields key h none = refl
names-known said Band fields key h none = refl

pub known-push : (rows : List Row) (w : Word) (fields : List (List ℕ)) → AreKnown rows → row_fault (said_by rows) w fields ≡ None → AreKnown (rows ++ row w fields ∷ [])
known-push rows w fields known h = λ key none.
    let before : station_with (said_by rows).stations key ≡ None =
    grown-none (said_by rows) w fields key (ap (λ said. station_with said.stations key) (sym (said-push rows w fields known h)) ∙ none) in
    list_any-append (λ r. is_keyed r.word && bytes_eq key (field r.fields 0)) rows (row w fields ∷ [])
    ∙ (λ i. known key before i || (names-known (said_by rows) w fields key h before i || false))

pub known-none : AreKnown []
known-none = λ key none. refl
