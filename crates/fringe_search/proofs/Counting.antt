-- How many records a head asks for, and where they stand.
use Rattle.std.proofs.Common.{◌≡◌, ℕ, ◌+◌, ◌*◌, ◌^◌, ◌<◌, ◌≤◌, List, [], ◌∷◌, length, map, drop, get_or, inl, inr, refl, sym, ap, ap₂, ◌∙◌, arith, length-append, length-drop}
use Rattle.std.specs.Prelude.{flat_map, sum_by, sum}
use Rattle.std.specs.Int.{div_ceil}
use Rattle.std.specs.List.{range_with_len, enumerate_from}
use Rattle.std.proofs.Math.Nat.{add-mul, mul-add, mul_assoc}
use Rattle.std.proofs.lemmas.Bool.{cases_lt}
use Rattle.std.proofs.lemmas.Grind.{div_ceil_times}
use Rattle.std.proofs.lemmas.Nat.{mul-le}
use Rattle.std.proofs.lemmas.List.{get_or-map, take_all}
use Rattle.std.proofs.lemmas.List.Concat.{length-flat_map}
use Rattle.std.proofs.lemmas.List.FromFn.{length-range_with_len, length-map-range_with_len}
use Rattle.std.proofs.lemmas.List.Sums.{sum-map, sum_by_more, sum_by_more_le}
use Rattle.corr_model.specs.declared.cell.Cell.{Cell}
use Rattle.corr_model.specs.Records.{Head, HeadScan, IsVis, places_of, scan_places, product_places, baseline_places}
use Rattle.corr_model.proofs.RecordLemmas.{places_of-scans}
use Rattle.vis_records.specs.Content.{Content}
use Rattle.vis_records.specs.Heads.{scan_of}
use Rattle.vis_records.specs.declared.head.VisScan.{VisScan}
use Rattle.fringe_search.specs.declared.places.SeriesAt.{SeriesAt}
use Rattle.fringe_search.specs.Layout.{no_scan, scan_at, integrations_of, records_each, records_of, records_before, IsSeriesAt, Series, series_of, IsWithin}

-- a scan of the head that a list of scans says
pub scan_known : (h : Head) (scans : List VisScan) (i : ℕ) (x : VisScan) → map scan_of scans ≡ h.scans → i < length scans
    → x ≡ get_or scans i x → scan_of x ≡ scan_at h i
scan_known h scans i x same within is =
    sym (ap (λ ss. get_or ss i no_scan) (sym same) ∙ get_or-map scan_of scans i x no_scan within ∙ ap scan_of (sym is))

pub div_ceil-le : (a b : ℕ) → 0 < b → div_ceil a b ≤ a
div_ceil-le a b h =
    let times = div_ceil_times a b h in
    elim (cases_lt a (div_ceil a b)) [
      | inl more ↦
          (let most = mul-le (a + 1) b (div_ceil a b) b (omega arith) (omega arith) in
          let own = mul-le a 1 a b (omega arith) (omega arith) in
          absurd (omega (arith, times.1, most, own, add-mul a 1 b)))
      | inr less ↦ less
    ]

-- lists of equal lengths, one behind another
pub length-even : {X A : Type 0} (f : X → List A) (w : ℕ) (xs : List X) → ((x : X) → length (f x) ≡ w) → length (flat_map f xs) ≡ length xs * w
length-even f w [] each = omega arith
length-even f w (x ∷ xs) each =
    omega (arith, length-append (f x) (flat_map f xs), each x, length-even f w xs each, add-mul (length xs) 1 w)

pub length-integration : (h : Head) (n : ℕ) (s : HeadScan) (m : ℕ) → length (product_places h n s m) ≡ records_each h s
length-integration h n s m =
    length-even (baseline_places n s m) (length s.baselines) (range_with_len 0 (length h.products))
    (λ p. length-map-range_with_len (λ (b : ℕ). record { scan = n; m = m; product = p; baseline = b }) 0 (length s.baselines))
    ∙ ap (λ k. k * length s.baselines) (length-range_with_len 0 (length h.products))

pub length-scan : (h : Head) (n : ℕ) (s : HeadScan) → length (scan_places h n s) ≡ records_of h s
length-scan h n s =
    length-even (product_places h n s) (records_each h s) (range_with_len 0 (integrations_of h s)) (length-integration h n s)
    ∙ ap (λ k. k * records_each h s) (length-range_with_len 0 (integrations_of h s))

pub lengths-scans : (h : Head) (b : ℕ) (scans : List HeadScan)
    → map (λ (s : ℕ × HeadScan). length (scan_places h s.0 s.1)) (enumerate_from b scans) ≡ map (records_of h) scans
lengths-scans h b [] = refl
lengths-scans h b (s ∷ scans) = ap₂ (λ n ns. n ∷ ns) (length-scan h b s) (lengths-scans h (b + 1) scans)

-- all records
pub length-places : (h : Head) → length (places_of h) ≡ records_before h (length h.scans)
unfolding records_before
length-places h =
    ap length (places_of-scans h)
    ∙ length-flat_map (λ (s : ℕ × HeadScan). scan_places h s.0 s.1) (enumerate_from 0 h.scans)
    ∙ sym (sum-map (λ (s : ℕ × HeadScan). length (scan_places h s.0 s.1)) (enumerate_from 0 h.scans))
    ∙ ap sum (lengths-scans h 0 h.scans)
    ∙ sum-map (records_of h) h.scans
    ∙ ap (sum_by (records_of h)) (sym (take_all (length h.scans) h.scans (omega arith)))

pub before_none : (h : Head) → records_before h 0 ≡ 0
unfolding records_before
before_none h = refl

pub before_more : (h : Head) (i : ℕ) → i < length h.scans → records_before h (i + 1) ≡ records_before h i + records_of h (scan_at h i)
unfolding records_before
before_more h i within = sum_by_more (records_of h) h.scans i no_scan within

-- the records of a scan and of those before it are among all
pub before_within : (h : Head) (i : ℕ) → i < length h.scans
    → records_before h i + records_of h (scan_at h i) ≤ records_before h (length h.scans)
unfolding records_before
before_within h i within =
    let all = ap (sum_by (records_of h)) (take_all (length h.scans) h.scans (omega arith)) in
    omega (arith, sum_by_more_le (records_of h) h.scans i no_scan within, all)

-- the same in cells
pub start_within : (h : Head) (i : ℕ) → i < length h.scans
    → h.lags * records_before h i + h.lags * records_of h (scan_at h i) ≤ h.lags * records_before h (length h.scans)
start_within h i within =
    let most = mul-le h.lags (records_before h i + records_of h (scan_at h i)) h.lags (records_before h (length h.scans)) (omega arith) (before_within h i within) in
    omega (arith, most, mul-add h.lags (records_before h i) (records_of h (scan_at h i)))

pub cells_counted : (c : Content) → IsVis c.head c.cells → length c.cells ≡ c.head.lags * records_before c.head (length c.head.scans)
cells_counted c vis = vis.count ∙ ap (λ n. c.head.lags * n) (length-places c.head)

-- a record of an integration, and those of all integrations before, are among a scan's
place_within : (lags m p b products baselines integrations : ℕ) → m < integrations → p < products → b < baselines
    → lags * (p * baselines + b) + m * (lags * (products * baselines)) + lags ≤ lags * (integrations * (products * baselines))
place_within lags m p b products baselines integrations hm hp hb =
    let e = products * baselines in
    let row : (p + 1) * baselines ≤ e = mul-le (p + 1) baselines products baselines (omega arith) (omega arith) in
    let own : p * baselines + b + 1 ≤ e = omega (arith, row, add-mul p 1 baselines) in
    let rows : (m + 1) * e ≤ integrations * e = mul-le (m + 1) e integrations e (omega arith) (omega arith) in
    let all : (p * baselines + b + m * e) + 1 ≤ integrations * e = omega (arith, own, rows, add-mul m 1 e) in
    let scaled = mul-le lags ((p * baselines + b + m * e) + 1) lags (integrations * e) (omega arith) all in
    let apart : lags * ((p * baselines + b + m * e) + 1) ≡ lags * (p * baselines + b) + lags * (m * e) + lags =
    mul-add lags (p * baselines + b + m * e) 1 ∙ ap₂ (λ x y. x + y) (mul-add lags (p * baselines + b) (m * e)) (times_one lags) in
    let turned : m * (lags * e) ≡ lags * (m * e) = swapped m lags e in
    omega (arith, scaled, apart, turned)
  where
    times_one : (n : ℕ) → n * 1 ≡ n
    times_one n = omega arith

    commuted : (m n : ℕ) → m * n ≡ n * m
    commuted m n = grind arith

    swapped : (m n e : ℕ) → m * (n * e) ≡ n * (m * e)
    swapped m n e = sym (mul_assoc m n e) ∙ ap (λ x. x * e) (commuted m n) ∙ mul_assoc n m e

-- a series is within its cells
pub series_within : (c : Content) (at : SeriesAt) → IsVis c.head c.cells → IsSeriesAt c.head at → (m : ℕ)
    → m < integrations_of c.head (scan_at c.head at.scan)
    → c.head.lags * (at.product * length (scan_at c.head at.scan).baselines + at.baseline)
    + m * (c.head.lags * records_each c.head (scan_at c.head at.scan)) + c.head.lags
    ≤ length (drop (c.head.lags * records_before c.head at.scan) c.cells)
series_within c at vis is m h =
    let s = scan_at c.head at.scan in
    let own = place_within c.head.lags m at.product at.baseline (length c.head.products) (length s.baselines) (integrations_of c.head s) h is.product is.baseline in
    let all = start_within c.head at.scan is.scan in
    omega (arith, own, all, cells_counted c vis, length-drop (c.head.lags * records_before c.head at.scan) c.cells)

-- fewer records than cells
pub few_records : (h : Head) (n : ℕ) → 1 ≤ h.lags → n ≡ h.lags * records_before h (length h.scans) → n < 2 ^ 64 → records_before h (length h.scans) < 2 ^ 64
few_records h n some is few =
    let total = records_before h (length h.scans) in
    let most = mul-le 1 total h.lags total some (omega arith) in
    omega (arith, most, is, few)

-- a series from its parts
abbrev pub made_of : List Cell → ℕ → ℕ → ℕ → ℕ → Series
made_of cells first stride integrations lags = record { cells = cells; first = first; stride = stride; integrations = integrations; lags = lags }

pub series_made : (c : Content) (at : SeriesAt) (cells : List Cell) (first stride integrations lags : ℕ)
    → cells ≡ drop (c.head.lags * records_before c.head at.scan) c.cells
    → first ≡ c.head.lags * (at.product * length (scan_at c.head at.scan).baselines + at.baseline)
    → stride ≡ c.head.lags * records_each c.head (scan_at c.head at.scan)
    → integrations ≡ integrations_of c.head (scan_at c.head at.scan)
    → lags ≡ c.head.lags
    → made_of cells first stride integrations lags ≡ series_of c at
unfolding series_of
series_made c at cells first stride integrations lags e₁ e₂ e₃ e₄ e₅ =
    ap₂ (λ x y. made_of x y stride integrations lags) e₁ e₂
    ∙ ap₂ (λ x y. made_of (drop (c.head.lags * records_before c.head at.scan) c.cells) (c.head.lags * (at.product * length (scan_at c.head at.scan).baselines + at.baseline)) x y lags) e₃ e₄
    ∙ ap (λ x. made_of (drop (c.head.lags * records_before c.head at.scan) c.cells) (c.head.lags * (at.product * length (scan_at c.head at.scan).baselines + at.baseline)) (c.head.lags * records_each c.head (scan_at c.head at.scan)) (integrations_of c.head (scan_at c.head at.scan)) x) e₅

pub series_good : (c : Content) (at : SeriesAt) → IsVis c.head c.cells → IsSeriesAt c.head at → IsWithin (series_of c at)
unfolding series_of
series_good c at vis is =
    let good = vis.head_is.scans at.scan no_scan is.scan in
    let less = div_ceil-le (scan_at c.head at.scan).samples c.head.integration (omega (arith, vis.head_is.some_integration)) in
    record {
      some_lags = omega (arith, vis.head_is.some_lags);
      lags = vis.head_is.lags;
      integrations = omega (arith, less, good.samples);
      cells = series_within c at vis is;
    }
