-- Which records the cells of a series belong to.
use Rattle.std.proofs.Common.{◌≡◌, ℕ, zero, suc, ◌+◌, ◌*◌, ◌<◌, ◌≤◌, List, [], ◌∷◌, length, take, get_or, Some, refl, sym, ap, ◌∙◌, arith, zero-add}
use Rattle.std.specs.Prelude.{flat_map, sum}
use Rattle.std.specs.List.{range_with_len, enumerate_from}
use Rattle.std.proofs.Math.Nat.{add-mul, mul-add, mul_assoc}
use Rattle.std.proofs.lemmas.Nat.{mul-le}
use Rattle.std.proofs.lemmas.List.{length-take, get_or-drop}
use Rattle.std.proofs.lemmas.List.Concat.{length-flat_map, get_or-flat_map}
use Rattle.std.proofs.lemmas.List.FromFn.{length-range_with_len, get_or-range_with_len, length-map-range_with_len, get_or-map-range_with_len, length-enumerate_from, get_or-enumerate_from}
use Rattle.std.proofs.lemmas.List.Sums.{sum-map}
use Rattle.std.proofs.lemmas.Option.{slice_get-get_or}
use Rattle.corr_model.specs.declared.records.RecordAt.{RecordAt}
use Rattle.corr_model.specs.Records.{Head, HeadScan, places_of, scan_places, product_places, baseline_places}
use Rattle.corr_model.proofs.RecordLemmas.{places_of-scans}
use Rattle.vis_records.specs.Content.{Content}
use Rattle.fringe_search.specs.declared.places.SeriesAt.{SeriesAt}
use Rattle.fringe_search.specs.Layout.{no_scan, no_cell, scan_at, integrations_of, records_each, records_of, records_before, IsSeriesAt, series_of}
use Rattle.fringe_search.specs.Laws.{IsCellsOf}
use Rattle.fringe_search.proofs.Counting.{length-even, length-integration, length-scan, lengths-scans, length-places, before_within}

-- the i-th of lists of one length for the numbers below another
row_at : {A : Type 0} (f : ℕ → List A) (w n i j : ℕ) (d : A) → ((k : ℕ) → length (f k) ≡ w) → i < n → j < w
    → get_or (flat_map f (range_with_len 0 n)) (i * w + j) d ≡ get_or (f i) j d
row_at f w n i j d each hi hj =
    let at : get_or (range_with_len 0 n) i i ≡ i = omega (arith, get_or-range_with_len 0 n i i hi) in
    let before : length (flat_map f (take i (range_with_len 0 n))) ≡ i * w =
    length-even f w (take i (range_with_len 0 n)) each ∙ ap (λ k. k * w) (omega (arith, length-take i (range_with_len 0 n), length-range_with_len 0 n)) in
    ap (λ k. get_or (flat_map f (range_with_len 0 n)) (k + j) d) (sym before)
    ∙ get_or-flat_map f (range_with_len 0 n) i j i d (omega (arith, length-range_with_len 0 n)) (omega (arith, each (get_or (range_with_len 0 n) i i)))
    ∙ ap (λ k. get_or (f k) j d) at

take-enumerate : {X : Type 0} (b i : ℕ) (xs : List X) → take i (enumerate_from b xs) ≡ enumerate_from b (take i xs)
take-enumerate b zero xs = refl
take-enumerate b (suc i) [] = refl
take-enumerate b (suc i) (x ∷ xs) = ap (λ ys. (b, x) ∷ ys) (take-enumerate (b + 1) i xs)

lengths-before : (h : Head) (i : ℕ)
    → length (flat_map (λ (s : ℕ × HeadScan). scan_places h s.0 s.1) (take i (enumerate_from 0 h.scans))) ≡ records_before h i
unfolding records_before
lengths-before h i =
    let f : ℕ × HeadScan → List RecordAt = λ s. scan_places h s.0 s.1 in
    ap (λ xs. length (flat_map f xs)) (take-enumerate 0 i h.scans)
    ∙ length-flat_map f (enumerate_from 0 (take i h.scans))
    ∙ sym (sum-map (λ (s : ℕ × HeadScan). length (scan_places h s.0 s.1)) (enumerate_from 0 (take i h.scans)))
    ∙ ap sum (lengths-scans h 0 (take i h.scans))
    ∙ sum-map (records_of h) (take i h.scans)

-- which record a series has in an integration
abbrev pub number_of : Head → SeriesAt → ℕ → ℕ
number_of h at m = records_before h at.scan + (m * records_each h (scan_at h at.scan) + (at.product * length (scan_at h at.scan).baselines + at.baseline))

place_below : (m p b products baselines integrations : ℕ) → m < integrations → p < products → b < baselines
    → (p * baselines + b < products * baselines) × (m * (products * baselines) + (p * baselines + b) < integrations * (products * baselines))
place_below m p b products baselines integrations hm hp hb =
    let e = products * baselines in
    let row : (p + 1) * baselines ≤ e = mul-le (p + 1) baselines products baselines (omega arith) (omega arith) in
    let rows : (m + 1) * e ≤ integrations * e = mul-le (m + 1) e integrations e (omega arith) (omega arith) in
    (omega (arith, row, add-mul p 1 baselines), omega (arith, row, rows, add-mul p 1 baselines, add-mul m 1 e))

record_there : (h : Head) (at : SeriesAt) (m : ℕ) (d : RecordAt) → IsSeriesAt h at → m < integrations_of h (scan_at h at.scan)
    → get_or (places_of h) (number_of h at m) d ≡ record { scan = at.scan; m = m; product = at.product; baseline = at.baseline }
record_there h at m d is hm =
    let s = scan_at h at.scan in
    let f : ℕ × HeadScan → List RecordAt = λ s. scan_places h s.0 s.1 in
    let own = at.product * length s.baselines + at.baseline in
    let j = m * records_each h s + own in
    let below = place_below m at.product at.baseline (length h.products) (length s.baselines) (integrations_of h s) hm is.product is.baseline in
    let there : get_or (enumerate_from 0 h.scans) at.scan (at.scan, no_scan) ≡ (at.scan, s) =
    get_or-enumerate_from 0 h.scans at.scan (at.scan, no_scan) is.scan ∙ rw zero-add refl in
    let inside : j < length (f (get_or (enumerate_from 0 h.scans) at.scan (at.scan, no_scan))) =
    omega (arith, ap (λ x. length (f x)) there, length-scan h at.scan s, below.1) in
    let f_baseline : ℕ → RecordAt = λ (b : ℕ). record { scan = at.scan; m = m; product = at.product; baseline = b } in
    ap (λ (xs : List RecordAt). get_or xs (number_of h at m) d) (places_of-scans h)
    ∙ ap (λ k. get_or (flat_map f (enumerate_from 0 h.scans)) (k + j) d) (sym (lengths-before h at.scan))
    ∙ get_or-flat_map f (enumerate_from 0 h.scans) at.scan j (at.scan, no_scan) d (omega (arith, length-enumerate_from 0 h.scans, is.scan)) inside
    ∙ ap (λ (x : ℕ × HeadScan). get_or (f x) j d) there
    ∙ row_at (product_places h at.scan s) (records_each h s) (integrations_of h s) m own d (length-integration h at.scan s) hm below.0
    ∙ row_at (baseline_places at.scan s m) (length s.baselines) (length h.products) at.product at.baseline d
    (λ p. length-map-range_with_len (λ (b : ℕ). record { scan = at.scan; m = m; product = p; baseline = b }) 0 (length s.baselines)) is.product is.baseline
    ∙ get_or-map-range_with_len f_baseline 0 (length s.baselines) at.baseline at.baseline d is.baseline (omega arith)

place_parts : (lags before m e own lag : ℕ) → lags * before + (lags * own + m * (lags * e) + lag) ≡ lags * (before + (m * e + own)) + lag
place_parts lags before m e own lag =
    omega (arith, mul-add lags before (m * e + own), mul-add lags (m * e) own, swapped m lags e)
  where
    commuted : (m n : ℕ) → m * n ≡ n * m
    commuted m n = grind arith

    swapped : (m n e : ℕ) → m * (n * e) ≡ n * (m * e)
    swapped m n e = sym (mul_assoc m n e) ∙ ap (λ x. x * e) (commuted m n) ∙ mul_assoc n m e

pub cells_of : (c : Content) (at : SeriesAt) (m : ℕ) → IsSeriesAt c.head at → m < (series_of c at).integrations → IsCellsOf c at m
unfolding series_of
cells_of c at m is hm =
    let h = c.head in
    let s = scan_at h at.scan in
    let own = at.product * length s.baselines + at.baseline in
    let d : RecordAt = record { scan = 0; m = 0; product = 0; baseline = 0 } in
    let below = place_below m at.product at.baseline (length h.products) (length s.baselines) (integrations_of h s) hm is.product is.baseline in
    let inside : number_of h at m < length (places_of h) = omega (arith, below.1, before_within h at.scan is.scan, length-places h) in
    record {
      number = number_of h at m;
      record_is = slice_get-get_or (places_of h) (number_of h at m) d inside ∙ ap (λ (x : RecordAt). Some x) (record_there h at m d is hm);
      cells = λ lag.
          get_or-drop (h.lags * records_before h at.scan) c.cells (h.lags * own + m * (h.lags * records_each h s) + lag) no_cell
          ∙ ap (λ k. get_or c.cells k no_cell) (place_parts h.lags (records_before h at.scan) m (records_each h s) own lag);
    }
