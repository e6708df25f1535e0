-- The text of records, row by row: a row is some records that stand one after another, with as many cells as they have.
use Rattle.std.proofs.Common.{◌≡◌, ℕ, zero, suc, ◌+◌, ◌-◌, ◌*◌, ◌<◌, ◌≤◌, List, [], ◌∷◌, ◌++◌, length, take, drop, map, Option, Result, Ok, Err, sym, ap, ◌∙◌, subst, arith, append_assoc, append-nil, length-append, length-drop}
use Rattle.std.specs.List.{flat_map, range_with_len}
use Rattle.std.specs.Result.{IsErr}
use Rattle.std.proofs.Math.Seq.{take-add}
use Rattle.std.proofs.lemmas.List.{take_all, take-append-drop, length-map, length-take-le, take-append-le, drop-append-le}
use Rattle.std.proofs.lemmas.Nat.{mul-le}
use Rattle.std.proofs.lemmas.List.Concat.{flat_map-append, flat_map_single}
use Rattle.std.proofs.lemmas.List.FromFn.{length-map-range_with_len}
use Rattle.corr_model.specs.declared.cell.Cell.{Cell}
use Rattle.corr_model.specs.declared.records.RecordAt.{RecordAt}
use Rattle.corr_model.specs.Records.{Head, HeadScan, record_text, records_text, baseline_places, product_places}
use Rattle.corr_model.proofs.RecordLemmas.{records_text-none, records_text-next}
use Rattle.dev_traits.specs.Told.{more}
use Rattle.dev_traits.proofs.Appended.{more-nil}
use Rattle.sink_text.specs.Appends.{Appends}
use Rattle.vis_records.specs.declared.head.VisScan.{VisScan}
use Rattle.vis_records.specs.declared.head.VisBaseline.{VisBaseline}
use Rattle.vis_records.specs.declared.head.VisProduct.{VisProduct}
use Rattle.vis_records.specs.Heads.{scan_of, baseline_of, product_of}
use Rattle.sink_text.proofs.AppendedText.{Appends-done, Appends-then, Appends-exit}

-- a run of numbers, and the run after it
pub range-append : (a n k : ℕ) → range_with_len a (n + k) ≡ range_with_len a n ++ range_with_len (a + n) k
range-append a zero k =
    let counted : zero + k ≡ k = omega arith in
    let from : a + zero ≡ a = omega arith in
    ap (range_with_len a) counted ∙ ap (λ b. range_with_len b k) (sym from)
range-append a (suc n) k =
    let counted : suc n + k ≡ suc (n + k) = omega arith in
    let from : (a + 1) + n ≡ a + suc n = omega arith in
    ap (range_with_len a) counted
    ∙ ap (λ (l : List ℕ). a ∷ l) (range-append (a + 1) n k ∙ ap (λ b. range_with_len (a + 1) n ++ range_with_len b k) from)

-- what the first numbers give, and the next one
pub flat_map-next : {A : Type 0} (f : ℕ → List A) (n : ℕ)
    → flat_map f (range_with_len 0 (n + 1)) ≡ flat_map f (range_with_len 0 n) ++ f n
flat_map-next f n =
    let here : 0 + n ≡ n = omega arith in
    ap (flat_map f) (range-append 0 n 1)
    ∙ flat_map-append f (range_with_len 0 n) (range_with_len (0 + n) 1)
    ∙ ap (λ (t : List _). flat_map f (range_with_len 0 n) ++ t) (append-nil (f (0 + n)) ∙ ap f here)

-- what the numbers after the first give
pub rest_of : {A : Type 0} → (ℕ → List A) → ℕ → ℕ → List A
rest_of f k n = flat_map f (range_with_len k (n - k))

pub flat_map-rest : {A : Type 0} (f : ℕ → List A) (k n : ℕ) → k ≤ n
    → flat_map f (range_with_len 0 n) ≡ flat_map f (range_with_len 0 k) ++ rest_of f k n
unfolding rest_of
flat_map-rest f k n h =
    let whole : n ≡ k + (n - k) = omega arith in
    let here : 0 + k ≡ k = omega arith in
    ap (λ m. flat_map f (range_with_len 0 m)) whole
    ∙ ap (flat_map f) (range-append 0 k (n - k))
    ∙ flat_map-append f (range_with_len 0 k) (range_with_len (0 + k) (n - k))
    ∙ ap (λ j. flat_map f (range_with_len 0 k) ++ flat_map f (range_with_len j (n - k))) here

-- lists of one length
pub length-rows : {A B : Type 0} (f : A → List B) (w : ℕ) (xs : List A) → ((x : A) → length (f x) ≡ w)
    → length (flat_map f xs) ≡ length xs * w
length-rows f w [] each = omega arith
length-rows f w (x ∷ xs) each = length-append (f x) (flat_map f xs) ∙ omega (arith, each x, length-rows f w xs each)

-- records, and then others
pub records_text-append : (lags : ℕ) (p q : List RecordAt) (c d : List Cell) → length c ≡ length p * lags
    → records_text lags (p ++ q) (c ++ d) ≡ records_text lags p c ++ records_text lags q d
records_text-append lags [] q [] d h =
    ap (λ (t : List ℕ). t ++ records_text lags q d) (sym (records_text-none lags []))
records_text-append lags [] q (c ∷ cs) d h = absurd (omega (arith, h))
records_text-append lags (at ∷ p) q c d h =
    let fits : lags ≤ length c = grind (arith, h) in
    let left : length (drop lags c) ≡ length p * lags = length-drop lags c ∙ grind (arith, h) in
    records_text-next lags at (p ++ q) (c ++ d)
    ∙ ap (λ (x : List Cell). record_text at x ++ records_text lags (p ++ q) (drop lags (c ++ d))) (take-append-le lags c d fits)
    ∙ ap (λ (x : List Cell). record_text at (take lags c) ++ records_text lags (p ++ q) x) (drop-append-le lags c d fits)
    ∙ ap (λ (t : List ℕ). record_text at (take lags c) ++ t) (records_text-append lags p q (drop lags c) d left)
    ∙ sym (append_assoc (record_text at (take lags c)) (records_text lags p (drop lags c)) (records_text lags q d))
    ∙ ap (λ (t : List ℕ). t ++ records_text lags q d) (sym (records_text-next lags at p c))

-- one record
pub records_text-one : (lags : ℕ) (at : RecordAt) (cells : List Cell) → length cells ≡ lags
    → record_text at cells ≡ records_text lags (at ∷ []) cells
records_text-one lags at cells h =
    sym (records_text-next lags at [] cells
    ∙ ap (λ (t : List ℕ). record_text at (take lags cells) ++ t) (records_text-none lags (drop lags cells))
    ∙ append-nil (record_text at (take lags cells))
    ∙ ap (record_text at) (take_all lags cells (omega (arith, h))))

-- rows of records: their places by the row's number, and the cells of one row after another, so many in each
pub record IsRows (lags : ℕ) (row : ℕ → List RecordAt) (width n : ℕ) (cells : List Cell) : Type 0 where
  pub each : (k : ℕ) → length (row k) * lags ≡ width
  pub all : length cells ≡ n * width

-- the text of the first rows
abbrev pub rows_text : ℕ → (ℕ → List RecordAt) → ℕ → List Cell → ℕ → List ℕ
rows_text lags row width cells k = records_text lags (flat_map row (range_with_len 0 k)) (take (k * width) cells)

length-first : (lags : ℕ) (row : ℕ → List RecordAt) (width n : ℕ) (cells : List Cell) (k : ℕ) → IsRows lags row width n cells → k ≤ n
    → length (take (k * width) cells) ≡ length (flat_map row (range_with_len 0 k)) * lags
length-first lags row width n cells k is h =
    let fits : k * width ≤ n * width = mul-le k width n width h (omega arith) in
    let taken = length-take-le (k * width) cells (omega (arith, is.all, fits)) in
    taken ∙ sym (counted k)
  where
    counted : (k : ℕ) → length (flat_map row (range_with_len 0 k)) * lags ≡ k * width
    counted zero = omega arith
    counted (suc k) =
        let next : length (flat_map row (range_with_len 0 (k + 1))) ≡ length (flat_map row (range_with_len 0 k)) + length (row k) =
        ap length (flat_map-next row k) ∙ length-append (flat_map row (range_with_len 0 k)) (row k) in
        let so_far = counted k in
        let one = is.each k in
        let this : suc k ≡ k + 1 = omega arith in
        ap (λ j. length (flat_map row (range_with_len 0 j)) * lags) this ∙ ap (λ j. j * lags) next ∙ omega (arith, so_far, one)

pub rows_text-next : (lags : ℕ) (row : ℕ → List RecordAt) (width n : ℕ) (cells part : List Cell) (k : ℕ) → IsRows lags row width n cells → k < n
    → part ≡ take width (drop (k * width) cells)
    → rows_text lags row width cells (k + 1) ≡ rows_text lags row width cells k ++ records_text lags (row k) part
rows_text-next lags row width n cells part k is h same =
    let wide : (k + 1) * width ≡ k * width + width = grind arith in
    ap (λ (p : List RecordAt). records_text lags p (take ((k + 1) * width) cells)) (flat_map-next row k)
    ∙ ap (records_text lags (flat_map row (range_with_len 0 k) ++ row k)) (ap (λ m. take m cells) wide ∙ take-add (k * width) width cells)
    ∙ records_text-append lags (flat_map row (range_with_len 0 k)) (row k) (take (k * width) cells) (take width (drop (k * width) cells))
    (length-first lags row width n cells k is (omega arith))
    ∙ ap (λ (c : List Cell). rows_text lags row width cells k ++ records_text lags (row k) c) (sym same)

pub rows_text-all : (lags : ℕ) (row : ℕ → List RecordAt) (width n : ℕ) (cells : List Cell) (k : ℕ) → IsRows lags row width n cells → k ≡ n
    → rows_text lags row width cells k ≡ records_text lags (flat_map row (range_with_len 0 n)) cells
rows_text-all lags row width n cells k is h =
    let long : length cells ≤ n * width = omega (arith, is.all) in
    ap (rows_text lags row width cells) h
    ∙ ap (records_text lags (flat_map row (range_with_len 0 n))) (take_all (n * width) cells long)

-- the text of the rows from row k on
pub rows_rest : ℕ → (ℕ → List RecordAt) → ℕ → ℕ → List Cell → ℕ → List ℕ
rows_rest lags row width n cells k = records_text lags (rest_of row k n) (drop (k * width) cells)

pub rows_text-rest : (lags : ℕ) (row : ℕ → List RecordAt) (width n : ℕ) (cells : List Cell) (k : ℕ) → IsRows lags row width n cells → k ≤ n
    → records_text lags (flat_map row (range_with_len 0 n)) cells ≡ rows_text lags row width cells k ++ rows_rest lags row width n cells k
unfolding rows_rest
rows_text-rest lags row width n cells k is h =
    ap (λ (p : List RecordAt). records_text lags p cells) (flat_map-rest row k n h)
    ∙ ap (records_text lags (flat_map row (range_with_len 0 k) ++ rest_of row k n)) (sym (take-append-drop (k * width) cells))
    ∙ records_text-append lags (flat_map row (range_with_len 0 k)) (rest_of row k n) (take (k * width) cells) (drop (k * width) cells)
    (length-first lags row width n cells k is h)

-- a call that appended a row, after the rows before it
pub Appends-row : {T E : Type 0} {old mid new : Option (List ℕ)} {before then now : ℕ} {r : Result T E}
    (lags : ℕ) (row : ℕ → List RecordAt) (width n : ℕ) (cells part : List Cell) (k : ℕ)
    → IsRows lags row width n cells → k < n
    → part ≡ take width (drop (k * width) cells)
    → mid ≡ more old (rows_text lags row width cells k)
    → then ≡ before
    → Appends mid new (records_text lags (row k) part) then now r
    → Appends old new (rows_text lags row width cells (k + 1)) before now r
Appends-row {T = T} {E = E} lags row width n cells part k is h same told kept one =
    Appends-then (rows_text-next lags row width n cells part k is h same) (Appends-done {T = Unit {0}} {E = E} tt told kept) one

-- one that failed at it
pub Appends-rows_exit : {T U E F : Type 0} {old new : Option (List ℕ)} {before now : ℕ} {e : E} {r : Result T F}
    (lags : ℕ) (row : ℕ → List RecordAt) (width n : ℕ) (cells : List Cell) (k : ℕ)
    → IsRows lags row width n cells → k ≤ n
    → IsErr r
    → Appends {T = U} {E = E} old new (rows_text lags row width cells k) before now (Err e)
    → Appends old new (records_text lags (flat_map row (range_with_len 0 n)) cells) before now r
Appends-rows_exit lags row width n cells k is h failed first =
    Appends-exit (rows_rest lags row width n cells k) (rows_text-rest lags row width n cells k is h) failed first

-- the part of the cells that a row has
pub part_of : (width at : ℕ) (cells : List Cell) → take (at + width - at) (drop at cells) ≡ take width (drop at cells)
part_of width at cells =
    let wide : at + width - at ≡ width = omega arith in
    ap (λ n. take n (drop at cells)) wide

-- the records of a product, one by one
pub baseline_place : ℕ → ℕ → ℕ → ℕ → List RecordAt
baseline_place number m product b = record { scan = number; m = m; product = product; baseline = b } ∷ []

pub baseline_rows : (number m product lags n : ℕ) (cells : List Cell) → length cells ≡ n * lags
    → IsRows lags (baseline_place number m product) lags n cells
unfolding baseline_place
baseline_rows number m product lags n cells h = record { each = λ k. omega arith; all = h }

pub baseline_places-one : (number : ℕ) (s : HeadScan) (m product : ℕ)
    → baseline_places number s m product ≡ flat_map (baseline_place number m product) (range_with_len 0 (length s.baselines))
unfolding baseline_place
baseline_places-one number s m product =
    sym (flat_map_single (λ (b : ℕ). record { scan = number; m = m; product = product; baseline = b }) (range_with_len 0 (length s.baselines)))

-- the records of an integration, product by product
pub length-baseline_places : (number : ℕ) (s : HeadScan) (m product : ℕ) → length (baseline_places number s m product) ≡ length s.baselines
length-baseline_places number s m product =
    length-map-range_with_len (λ (b : ℕ). record { scan = number; m = m; product = product; baseline = b }) 0 (length s.baselines)

pub product_rows : (head : Head) (number : ℕ) (s : HeadScan) (m : ℕ) (cells : List Cell) (listed lags products : ℕ)
    → listed ≡ length s.baselines
    → lags ≡ head.lags
    → products ≡ length head.products
    → length cells ≡ length head.products * length s.baselines * head.lags
    → IsRows head.lags (baseline_places number s m) (listed * lags) products cells
product_rows head number s m cells listed lags products a b d h = record {
  each = λ p. ap (λ n. n * head.lags) (length-baseline_places number s m p) ∙ grind (arith, a, b);
  all = h ∙ grind (arith, a, b, d);
}

-- no row yet
pub rows-none : (lags : ℕ) (row : ℕ → List RecordAt) (width : ℕ) (cells : List Cell) (told : Option (List ℕ))
    → told ≡ more told (rows_text lags row width cells 0)
rows-none lags row width cells told =
    sym (ap (more told) (records_text-none lags (take (0 * width) cells)) ∙ more-nil told)

pub Appends-same : {T E : Type 0} {old new : Option (List ℕ)} {a b : List ℕ} {before now : ℕ} {r : Result T E}
    → a ≡ b
    → Appends old new a before now r
    → Appends old new b before now r
Appends-same {old = old} {new = new} {before = before} {now = now} {r = r} same first =
    subst (λ (t : List ℕ). Appends old new t before now r) same first

-- as many baselines as the scan in memory has
pub baselines-many : (scan : VisScan) (listed : List VisBaseline) → listed ≡ scan.baselines
    → length listed ≡ length (scan_of scan).baselines
baselines-many scan listed same = ap length same ∙ sym (length-map scan.baselines baseline_of)

-- one record, as a row of its own
record_row : {T E : Type 0} {old new : Option (List ℕ)} {before now : ℕ} {r : Result T E}
    (number m product lags n b : ℕ) (cells part : List Cell)
    → IsRows lags (baseline_place number m product) lags n cells → b < n
    → part ≡ take lags (drop (b * lags) cells)
    → Appends old new (record_text (record { scan = number; m = m; product = product; baseline = b }) part) before now r
    → Appends old new (records_text lags (baseline_place number m product b) part) before now r
unfolding baseline_place
record_row number m product lags n b cells part rows h same one =
    Appends-same (records_text-one lags (record { scan = number; m = m; product = product; baseline = b }) part (ap length same ∙ long)) one
  where
    long : length (take lags (drop (b * lags) cells)) ≡ lags
    long =
        let row : (b + 1) * lags ≤ n * lags = mul-le (b + 1) lags n lags (omega (arith, h)) (omega arith) in
        let wide : (b + 1) * lags ≡ b * lags + lags = grind arith in
        length-take-le lags (drop (b * lags) cells) (omega (arith, length-drop (b * lags) cells, rows.all, row, wide))

-- the records of a product so far, and the next one
module _ (number m product lags : ℕ) (scan : VisScan) (cells : List Cell) (listed : List VisBaseline) where
  abbrev pub baselines-so_far : ℕ → List ℕ
  baselines-so_far b = rows_text lags (baseline_place number m product) lags cells b

  many : listed ≡ scan.baselines → length listed ≡ length (scan_of scan).baselines
  many same = ap length same ∙ sym (length-map scan.baselines baseline_of)

  rows : length cells ≡ length scan.baselines * lags → listed ≡ scan.baselines
      → IsRows lags (baseline_place number m product) lags (length listed) cells
  rows room same = baseline_rows number m product lags (length listed) cells (room ∙ ap (λ (l : List VisBaseline). length l * lags) (sym same))

  whole : listed ≡ scan.baselines
      → records_text lags (flat_map (baseline_place number m product) (range_with_len 0 (length listed))) cells
      ≡ records_text lags (baseline_places number (scan_of scan) m product) cells
  whole same =
      ap (λ n. records_text lags (flat_map (baseline_place number m product) (range_with_len 0 n)) cells) (many same)
      ∙ ap (λ (p : List RecordAt). records_text lags p cells) (sym (baseline_places-one number (scan_of scan) m product))

  pub baselines-next : {T E : Type 0} {old mid new : Option (List ℕ)} {before then now : ℕ} {r : Result T E} (b : ℕ)
      → length cells ≡ length scan.baselines * lags → listed ≡ scan.baselines → b < length listed
      → mid ≡ more old (baselines-so_far b)
      → then ≡ before
      → Appends mid new (record_text (record { scan = number; m = m; product = product; baseline = b }) (take (b * lags + lags - b * lags) (drop (b * lags) cells))) then now r
      → Appends old new (baselines-so_far (b + 1)) before now r
  baselines-next b room same h told kept one =
      let is = rows room same in
      let part = part_of lags (b * lags) cells in
      Appends-row lags (baseline_place number m product) lags (length listed) cells
      (take (b * lags + lags - b * lags) (drop (b * lags) cells)) b is h part told kept
      (record_row number m product lags (length listed) b cells (take (b * lags + lags - b * lags) (drop (b * lags) cells)) is h part one)

  pub baselines-exit : {T U E F : Type 0} {old new : Option (List ℕ)} {before now : ℕ} {e : E} {r : Result T F} (b : ℕ)
      → length cells ≡ length scan.baselines * lags → listed ≡ scan.baselines → b < length listed
      → IsErr r
      → Appends {T = U} {E = E} old new (baselines-so_far (b + 1)) before now (Err e)
      → Appends old new (records_text lags (baseline_places number (scan_of scan) m product) cells) before now r
  baselines-exit b room same h failed first =
      Appends-same (whole same)
      (Appends-rows_exit lags (baseline_place number m product) lags (length listed) cells (b + 1) (rows room same) (omega (arith, h)) failed first)

  pub baselines-all : {T E : Type 0} {old new : Option (List ℕ)} {before now : ℕ} (x : T) (b : ℕ)
      → length cells ≡ length scan.baselines * lags → listed ≡ scan.baselines → b ≤ length listed → length listed ≤ b
      → new ≡ more old (baselines-so_far b)
      → now ≡ before
      → Appends {T = T} {E = E} old new (records_text lags (baseline_places number (scan_of scan) m product) cells) before now (Ok x)
  baselines-all x b room same low high told kept =
      Appends-same (rows_text-all lags (baseline_place number m product) lags (length listed) cells b (rows room same) (omega (arith, low, high)) ∙ whole same)
      (Appends-done x told kept)

-- the records of an integration so far, product by product
module _ (head : Head) (number m : ℕ) (scan : VisScan) (cells : List Cell) (counted : List VisBaseline) (lags : ℕ) (listed : List VisProduct) where
  abbrev pub products-so_far : ℕ → List ℕ
  products-so_far p = rows_text head.lags (baseline_places number (scan_of scan) m) (length counted * lags) cells p

  -- the counts of the code are those of the head
  pub record IsCounted : Type 0 where
    pub baselines : counted ≡ scan.baselines
    pub lags_are : lags ≡ head.lags
    pub products : map product_of listed ≡ head.products
    pub room : length cells ≡ length head.products * length (scan_of scan).baselines * head.lags

  many_products : IsCounted → length listed ≡ length head.products
  many_products is = sym (length-map listed product_of) ∙ ap length is.products

  their_rows : IsCounted → IsRows head.lags (baseline_places number (scan_of scan) m) (length counted * lags) (length listed) cells
  their_rows is =
      product_rows head number (scan_of scan) m cells (length counted) lags (length listed)
      (baselines-many scan counted is.baselines) is.lags_are (many_products is) is.room

  all_of : IsCounted
      → records_text head.lags (flat_map (baseline_places number (scan_of scan) m) (range_with_len 0 (length listed))) cells
      ≡ records_text head.lags (product_places head number (scan_of scan) m) cells
  all_of is = ap (λ n. records_text head.lags (flat_map (baseline_places number (scan_of scan) m) (range_with_len 0 n)) cells) (many_products is)

  pub products-next : {T E : Type 0} {old mid new : Option (List ℕ)} {before then now : ℕ} {r : Result T E} (p : ℕ)
      → IsCounted → p < length listed
      → mid ≡ more old (products-so_far p)
      → then ≡ before
      → Appends mid new (records_text lags (baseline_places number (scan_of scan) m p) (take (p * (length counted * lags) + length counted * lags - p * (length counted * lags)) (drop (p * (length counted * lags)) cells))) then now r
      → Appends old new (products-so_far (p + 1)) before now r
  products-next p is h told kept one =
      let width = length counted * lags in
      let part = take (p * width + width - p * width) (drop (p * width) cells) in
      Appends-row head.lags (baseline_places number (scan_of scan) m) width (length listed) cells part p (their_rows is) h
      (part_of width (p * width) cells) told kept
      (Appends-same (ap (λ l. records_text l (baseline_places number (scan_of scan) m p) part) is.lags_are) one)

  pub products-exit : {T U E F : Type 0} {old new : Option (List ℕ)} {before now : ℕ} {e : E} {r : Result T F} (p : ℕ)
      → IsCounted → p < length listed
      → IsErr r
      → Appends {T = U} {E = E} old new (products-so_far (p + 1)) before now (Err e)
      → Appends old new (records_text head.lags (product_places head number (scan_of scan) m) cells) before now r
  products-exit p is h failed first =
      Appends-same (all_of is)
      (Appends-rows_exit head.lags (baseline_places number (scan_of scan) m) (length counted * lags) (length listed) cells (p + 1) (their_rows is) (omega (arith, h)) failed first)

  pub products-all : {T E : Type 0} {old new : Option (List ℕ)} {before now : ℕ} (x : T) (p : ℕ)
      → IsCounted → p ≤ length listed → length listed ≤ p
      → new ≡ more old (products-so_far p)
      → now ≡ before
      → Appends {T = T} {E = E} old new (records_text head.lags (product_places head number (scan_of scan) m) cells) before now (Ok x)
  products-all x p is low high told kept =
      Appends-same (rows_text-all head.lags (baseline_places number (scan_of scan) m) (length counted * lags) (length listed) cells p (their_rows is) (omega (arith, low, high)) ∙ all_of is)
      (Appends-done x told kept)
