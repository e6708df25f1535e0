-- The series of a head, one after another.
use Rattle.std.proofs.Common.{◌≡◌, ℕ, suc, ◌+◌, ◌-◌, ◌<◌, ◌≤◌, List, [], ◌∷◌, ◌++◌, length, map, take, get_or, refl, sym, ap, subst, ◌∙◌, arith, append_assoc}
use Rattle.std.specs.Prelude.{flat_map}
use Rattle.std.specs.List.{range_with_len}
use Rattle.std.proofs.lemmas.List.{length-map}
use Rattle.std.proofs.lemmas.List.Concat.{get_or-flat_map}
use Rattle.std.proofs.lemmas.List.Folds.{length-flat_map-take}
use Rattle.std.proofs.lemmas.List.FromFn.{length-range_with_len, get_or-range_with_len, length-map-range_with_len, get_or-map-range_with_len}
use Rattle.corr_model.specs.Records.{Head, HeadScan, IsHead, IsHeadScan}
use Rattle.vis_records.specs.declared.head.VisBaseline.{VisBaseline}
use Rattle.vis_records.specs.declared.head.VisScan.{VisScan}
use Rattle.vis_records.specs.Heads.{baseline_of, scan_of}
use Rattle.fringe_search.specs.declared.places.SeriesAt.{SeriesAt}
use Rattle.fringe_search.specs.Layout.{no_scan, scan_at, IsSeriesAt, product_series, scan_series, series_in}
use Rattle.fringe_search.specs.InOrder.{scans_from, products_from, baselines_from, series_from}

-- a scan of a head
pub scan_good : (h : Head) (i : ℕ) → IsHead h → i < length h.scans → IsHeadScan (length h.stations) (scan_at h i)
scan_good h i good within = good.scans i no_scan within

-- a scan of a record file has the baselines of the head's scan
pub items_counted : (h : Head) (i : ℕ) (scan : VisScan) (items : List VisBaseline) → items ≡ scan.baselines → scan_of scan ≡ scan_at h i
    → length items ≡ length (scan_at h i).baselines
items_counted h i scan items all is =
    ap length all ∙ sym (length-map scan.baselines baseline_of) ∙ ap (λ (s : HeadScan). length s.baselines) is

range-more : (a n : ℕ) → range_with_len a (n + 1) ≡ a ∷ range_with_len (a + 1) n
range-more a n = let e : n + 1 ≡ suc n = omega arith in rw e refl

scans-more : (h : Head) (scan : ℕ) → scan < length h.scans → scans_from h scan ≡ scan_series h scan ++ scans_from h (scan + 1)
unfolding scans_from
scans-more h scan within =
    let one : length h.scans - scan ≡ (length h.scans - (scan + 1)) + 1 = omega arith in
    ap (λ n. flat_map (scan_series h) (range_with_len scan n)) one
    ∙ ap (flat_map (scan_series h)) (range-more scan (length h.scans - (scan + 1)))

pub scans-none : (h : Head) (scan : ℕ) → length h.scans ≤ scan → scans_from h scan ≡ []
unfolding scans_from
scans-none h scan past = let none : length h.scans - scan ≡ 0 = omega arith in ap (λ n. flat_map (scan_series h) (range_with_len scan n)) none

products-more : (h : Head) (scan product : ℕ) → product < length h.products
    → products_from h scan product ≡ baselines_from h scan product 0 ++ products_from h scan (product + 1)
unfolding products_from baselines_from
products-more h scan product within =
    let one : length h.products - product ≡ (length h.products - (product + 1)) + 1 = omega arith in
    let all : length (scan_at h scan).baselines - 0 ≡ length (scan_at h scan).baselines = omega arith in
    ap (λ n. flat_map (product_series h scan) (range_with_len product n)) one
    ∙ ap (flat_map (product_series h scan)) (range-more product (length h.products - (product + 1)))
    ∙ ap (λ n. map (λ (b : ℕ). record { scan = scan; product = product; baseline = b }) (range_with_len 0 n) ++ flat_map (product_series h scan) (range_with_len (product + 1) (length h.products - (product + 1)))) (sym all)

products-none : (h : Head) (scan product : ℕ) → length h.products ≤ product → products_from h scan product ≡ []
unfolding products_from
products-none h scan product past =
    let none : length h.products - product ≡ 0 = omega arith in ap (λ n. flat_map (product_series h scan) (range_with_len product n)) none

products-all : (h : Head) (scan : ℕ) → scan_series h scan ≡ products_from h scan 0
unfolding products_from
products-all h scan =
    let all : length h.products - 0 ≡ length h.products = omega arith in
    ap (λ n. flat_map (product_series h scan) (range_with_len 0 n)) (sym all)

baselines-more : (h : Head) (scan product baseline : ℕ) → baseline < length (scan_at h scan).baselines
    → baselines_from h scan product baseline ≡ record { scan = scan; product = product; baseline = baseline } ∷ baselines_from h scan product (baseline + 1)
unfolding baselines_from
baselines-more h scan product baseline within =
    let count = length (scan_at h scan).baselines in
    let one : count - baseline ≡ (count - (baseline + 1)) + 1 = omega arith in
    ap (λ n. map (λ (b : ℕ). record { scan = scan; product = product; baseline = b }) (range_with_len baseline n)) one
    ∙ ap (map (λ (b : ℕ). record { scan = scan; product = product; baseline = b })) (range-more baseline (count - (baseline + 1)))

baselines-none : (h : Head) (scan product baseline : ℕ) → length (scan_at h scan).baselines ≤ baseline → baselines_from h scan product baseline ≡ []
unfolding baselines_from
baselines-none h scan product baseline past =
    let none : length (scan_at h scan).baselines - baseline ≡ 0 = omega arith in
    ap (λ n. map (λ (b : ℕ). record { scan = scan; product = product; baseline = b }) (range_with_len baseline n)) none

-- a scan begins with its first baseline of its first product
pub scan_opens : (h : Head) (scan : ℕ) → IsHead h → scan < length h.scans → scans_from h scan ≡ series_from h (record { scan = scan; product = 0; baseline = 0 })
scan_opens h scan good within =
    scans-more h scan within
    ∙ ap (λ t. t ++ scans_from h (scan + 1)) (products-all h scan ∙ products-more h scan 0 (omega (arith, good.some_product)))
    ∙ append_assoc (baselines_from h scan 0 0) (products_from h scan 1) (scans_from h (scan + 1))

pub series_all : (h : Head) → series_in h ≡ scans_from h 0
unfolding series_in scans_from
series_all h =
    let all : length h.scans - 0 ≡ length h.scans = omega arith in
    ap (λ n. flat_map (scan_series h) (range_with_len 0 n)) (sym all)

-- what comes behind a series
pub next_baseline : (h : Head) (at : SeriesAt) → IsSeriesAt h at
    → series_from h at ≡ at ∷ series_from h (record { scan = at.scan; product = at.product; baseline = at.baseline + 1 })
next_baseline h at is =
    ap (λ t. t ++ (products_from h at.scan (at.product + 1) ++ scans_from h (at.scan + 1))) (baselines-more h at.scan at.product at.baseline is.baseline)

pub next_product : (h : Head) (at : SeriesAt) → IsSeriesAt h at → length (scan_at h at.scan).baselines ≤ at.baseline + 1 → at.product + 1 < length h.products
    → series_from h at ≡ at ∷ series_from h (record { scan = at.scan; product = at.product + 1; baseline = 0 })
next_product h at is past within =
    next_baseline h at is
    ∙ ap (λ t. at ∷ (t ++ (products_from h at.scan (at.product + 1) ++ scans_from h (at.scan + 1)))) (baselines-none h at.scan at.product (at.baseline + 1) past)
    ∙ ap (λ t. at ∷ (t ++ scans_from h (at.scan + 1))) (products-more h at.scan (at.product + 1) within)
    ∙ ap (λ t. at ∷ t) (append_assoc (baselines_from h at.scan (at.product + 1) 0) (products_from h at.scan (at.product + 1 + 1)) (scans_from h (at.scan + 1)))

pub next_scan : (h : Head) (at : SeriesAt) → IsSeriesAt h at → length (scan_at h at.scan).baselines ≤ at.baseline + 1 → length h.products ≤ at.product + 1
    → series_from h at ≡ at ∷ scans_from h (at.scan + 1)
next_scan h at is past last =
    next_baseline h at is
    ∙ ap (λ t. at ∷ (t ++ (products_from h at.scan (at.product + 1) ++ scans_from h (at.scan + 1)))) (baselines-none h at.scan at.product (at.baseline + 1) past)
    ∙ ap (λ t. at ∷ (t ++ scans_from h (at.scan + 1))) (products-none h at.scan (at.product + 1) last)

-- ---- each series of a head is among them

abbrev pub Stands : {A : Type 0} → List A → A → Type 0
Stands xs x = (k : ℕ) × (k < length xs) × (get_or xs k x ≡ x)

stands_in : {X A : Type 0} (f : X → List A) (xs : List X) (i : ℕ) (e : X) (x : A) → i < length xs → Stands (f (get_or xs i e)) x → Stands (flat_map f xs) x
stands_in f xs i e x within (j, short, is) = (
  length (flat_map f (take i xs)) + j,
  omega (arith, length-flat_map-take f xs i e within, short),
  get_or-flat_map f xs i j e x within short ∙ is,
)

stands_baseline : (h : Head) (at : SeriesAt) → IsSeriesAt h at → Stands (product_series h at.scan at.product) at
stands_baseline h at is =
    let f : ℕ → SeriesAt = λ (b : ℕ). record { scan = at.scan; product = at.product; baseline = b } in
    let count = length (scan_at h at.scan).baselines in (
      at.baseline,
      omega (arith, length-map-range_with_len f 0 count, is.baseline),
      get_or-map-range_with_len f 0 count at.baseline at.baseline at is.baseline (omega arith),
    )

stands_product : (h : Head) (at : SeriesAt) → IsSeriesAt h at → Stands (scan_series h at.scan) at
stands_product h at is =
    let same : get_or (range_with_len 0 (length h.products)) at.product at.product ≡ at.product =
    omega (arith, get_or-range_with_len 0 (length h.products) at.product at.product is.product) in
    stands_in (product_series h at.scan) (range_with_len 0 (length h.products)) at.product at.product at
    (omega (arith, length-range_with_len 0 (length h.products), is.product))
    (subst (λ (p : ℕ). Stands (product_series h at.scan p) at) (sym same) (stands_baseline h at is))

pub stands_all : (h : Head) (at : SeriesAt) → IsSeriesAt h at → Stands (series_in h) at
unfolding series_in
stands_all h at is =
    let same : get_or (range_with_len 0 (length h.scans)) at.scan at.scan ≡ at.scan =
    omega (arith, get_or-range_with_len 0 (length h.scans) at.scan at.scan is.scan) in
    stands_in (scan_series h) (range_with_len 0 (length h.scans)) at.scan at.scan at
    (omega (arith, length-range_with_len 0 (length h.scans), is.scan))
    (subst (λ (s : ℕ). Stands (scan_series h s) at) (sym same) (stands_product h at is))
