-- What there is one of: the first large amplitude of a record file, the peak of a series, the certificate of a grid, and a wrong
-- text's first wrong line.
use Rattle.std.proofs.Common.{◌≡◌, ◌∙◌, ℕ, ◌<◌, ◌≤◌, List, [], ◌∷◌, ◌++◌, map, length, get_or, refl, sym, ap, ap₂, subst, inl, inr, arith}
use Rattle.std.specs.Prelude.{flat_map}
use Rattle.std.specs.List.{All, range_with_len}
use Rattle.std.proofs.lemmas.Bool.{cases_lt}
use Rattle.std.proofs.lemmas.Int.{ints}
use Rattle.std.proofs.lemmas.List.Elements.{All-nil, All-head, All-tail, All-append, All-map, All-same}
use Rattle.std.proofs.lemmas.List.FromFn.{length-range_with_len, get_or-range_with_len}
use native.Mathlib.Bridge.{le_prop}
use mathlib.Core.HLevel.{is_prop→PathP}
use Rattle.corr_model.specs.Lags.{lag_of}
use Rattle.corr_model.specs.Records.{Head}
use Rattle.vis_records.specs.Content.{Content}
use Rattle.fringe_search.specs.declared.grid.Grid.{Grid}
use Rattle.fringe_search.specs.declared.grid.Peak.{Peak}
use Rattle.fringe_search.specs.declared.places.SeriesAt.{SeriesAt}
use Rattle.fringe_search.specs.Layout.{Series, IsSeriesAt, scan_at, product_series, scan_series, series_in, series_of}
use Rattle.fringe_search.specs.Sums.{re_at, im_at, amplitude_at, power_at}
use Rattle.fringe_search.specs.Peaks.{IsPeak, IsSmall, AreSmall, IsFirstLargeOf, IsFirstLarge}
use Rattle.fringe_search.specs.Certificates.{Line, GridLine}
use Rattle.fringe_search.specs.Fronts.{IsWrongAt}
use Rattle.fringe_search.specs.Written.{Found, IsCertificate, found_lines}

-- ---- the first large amplitude

large-not_small : (s : Series) (a : ℕ) → IsFirstLargeOf s a → IsSmall s → ⊥
large-not_small s a p small = absurd (omega (arith, p.is, p.large, small p.lag p.within))

large_of-one : (s : Series) (a b : ℕ) → IsFirstLargeOf s a → IsFirstLargeOf s b → a ≡ b
large_of-one s a b p q = elim (cases_lt p.lag q.lag) [
  | inl less ↦ absurd (omega (arith, p.is, p.large, q.before p.lag less))
  | inr past ↦ elim (cases_lt q.lag p.lag) [
    | inl less ↦ absurd (omega (arith, q.is, q.large, p.before q.lag less))
    | inr back ↦ (let same : p.lag ≡ q.lag = omega arith in p.is ∙ ap (λ l. amplitude_at s l) same ∙ sym q.is)
  ]
]

-- where a list is split at its first element that is no P, this is one
split-one : {X : Type 0} (P : X → Type 0) (b c : List X) (x y : X) (d e : List X) → b ++ x ∷ d ≡ c ++ y ∷ e → All P b → All P c
    → ¬ P x → ¬ P y → x ≡ y
split-one P [] [] x y d e is front back one other = cc
split-one P [] (z ∷ c) x y d e is front back one other =
    let same : z ≡ x = cc in
    absurd (one (subst P same (All-head P z c back)))
split-one P (z ∷ b) [] x y d e is front back one other =
    let same : z ≡ y = cc in
    absurd (other (subst P same (All-head P z b front)))
split-one P (z ∷ b) (w ∷ c) x y d e is front back one other =
    let rest : b ++ x ∷ d ≡ c ++ y ∷ e = cc in
    split-one P b c x y d e rest (All-tail P z b front) (All-tail P w c back) one other

pub large-one : (c : Content) (a b : ℕ) → IsFirstLarge c a → IsFirstLarge c b → a ≡ b
large-one c a b p q =
    let small : SeriesAt → Type 0 = λ at. IsSmall (series_of c at) in
    let same : p.at ≡ q.at =
    split-one small p.before q.before p.at q.at p.behind q.behind (sym p.is ∙ q.is) p.small q.small
    (large-not_small (series_of c p.at) a p.first) (large-not_small (series_of c q.at) b q.first) in
    large_of-one (series_of c q.at) a b (subst (λ (at : SeriesAt). IsFirstLargeOf (series_of c at) a) same p.first) q.first

-- ---- the series of a head have its numbers

All-flat_map : {X A : Type 0} (P : A → Type 0) (f : X → List A) (xs : List X) → All (λ (x : X). All P (f x)) xs → All P (flat_map f xs)
All-flat_map P f [] all = All-nil P
All-flat_map {X} P f (x ∷ xs) all =
    All-append P (f x) (flat_map f xs) (All-head (λ (x : X). All P (f x)) x xs all)
    (All-flat_map P f xs (All-tail (λ (x : X). All P (f x)) x xs all))

All-below : (P : ℕ → Type 0) (n : ℕ) → ((k : ℕ) → k < n → P k) → All P (range_with_len 0 n)
All-below P n each = λ k d h.
    let within : k < n = omega (arith, h, length-range_with_len 0 n) in
    let same : k ≡ get_or (range_with_len 0 n) k d = omega (arith, get_or-range_with_len 0 n k d within) in
    subst P same (each k within)

series-placed : (h : Head) → All (IsSeriesAt h) (series_in h)
unfolding series_in
series-placed h =
    All-flat_map (IsSeriesAt h) (scan_series h) (range_with_len 0 (length h.scans))
    (All-below (λ s. All (IsSeriesAt h) (scan_series h s)) (length h.scans) (λ s scan.
    All-flat_map (IsSeriesAt h) (product_series h s) (range_with_len 0 (length h.products))
    (All-below (λ p. All (IsSeriesAt h) (product_series h s p)) (length h.products) (λ p product.
    All-map (IsSeriesAt h) (λ (b : ℕ). record { scan = s; product = p; baseline = b }) (range_with_len 0 (length (scan_at h s).baselines))
    (All-below (λ (b : ℕ). IsSeriesAt h (record { scan = s; product = p; baseline = b })) (length (scan_at h s).baselines) (λ b baseline.
    record { scan = scan; product = product; baseline = baseline }))))))

All-behind : {X : Type 0} (P : X → Type 0) (before xs : List X) → All P (before ++ xs) → All P xs
All-behind P [] xs all = all
All-behind P (x ∷ before) xs all = All-behind P before xs (All-tail P x (before ++ xs) all)

pub small-not_large : (c : Content) (a : ℕ) → AreSmall c → IsFirstLarge c a → ⊥
small-not_large c a small p =
    let split : All (IsSeriesAt c.head) (p.before ++ p.at ∷ p.behind) =
    All-same (IsSeriesAt c.head) (p.before ++ p.at ∷ p.behind) (series_in c.head) (sym p.is) (series-placed c.head) in
    let placed : IsSeriesAt c.head p.at = All-head (IsSeriesAt c.head) p.at p.behind (All-behind (IsSeriesAt c.head) p.before (p.at ∷ p.behind) split) in
    large-not_small (series_of c p.at) a p.first (small p.at placed)

-- ---- the certificate

pub grid-same : (g h : Grid) → g.rates ≡ h.rates → g.divide ≡ h.divide → g ≡ h
grid-same g h rates divide = λ i. record {
  rates = rates i;
  divide = divide i;
  rates_within = is_prop→PathP (λ j. rates j ≤ 4096) (λ j. le_prop) g.rates_within h.rates_within i;
  divide_some = is_prop→PathP (λ j. 0 < divide j) (λ j. le_prop) g.divide_some h.divide_some i;
  divide_within = is_prop→PathP (λ j. divide j ≤ 65536) (λ j. le_prop) g.divide_within h.divide_within i;
}

pub peak-one : (s : Series) (g : Grid) (p q : Peak) → IsPeak s g p → IsPeak s g q → p ≡ q
peak-one s g p q first second =
    let over = first.leads second.number q.rate second.point.within second.point.rate in
    let under = second.leads first.number p.rate first.point.within first.point.rate in
    let power : power_at s g.divide second.number q.rate ≡ power_at s g.divide first.number p.rate = omega (arith, over.most, under.most) in
    let number : first.number ≡ second.number = omega (arith, over.lag_first power, under.lag_first (sym power)) in
    let rate : p.rate ≡ q.rate = omega (arith, ints, over.rate_first power (sym number), under.rate_first (sym power) number) in
    let lag : p.lag ≡ q.lag = first.point.lag ∙ ap (lag_of s.lags) number ∙ sym second.point.lag in
    let re : p.re ≡ q.re = first.point.re ∙ ap₂ (λ n r. re_at s g.divide n r) number rate ∙ sym second.point.re in
    let im : p.im ≡ q.im = first.point.im ∙ ap₂ (λ n r. im_at s g.divide n r) number rate ∙ sym second.point.im in
    λ i. record { lag = lag i; rate = rate i; re = re i; im = im i }

found-one : (c : Content) (g : Grid) (xs ys : List Found) → map (λ (f : Found). f.at) xs ≡ map (λ (f : Found). f.at) ys
    → All (λ (f : Found). IsPeak (series_of c f.at) g f.peak) xs
    → All (λ (f : Found). IsPeak (series_of c f.at) g f.peak) ys
    → xs ≡ ys
found-one c g [] [] same first second = refl
found-one c g [] (y ∷ ys) same first second = cc
found-one c g (x ∷ xs) [] same first second = cc
found-one c g (x ∷ xs) (y ∷ ys) same first second =
    let is : Found → Type 0 = λ f. IsPeak (series_of c f.at) g f.peak in
    let at : x.at ≡ y.at = cc in
    let rest : map (λ (f : Found). f.at) xs ≡ map (λ (f : Found). f.at) ys = cc in
    let peak : x.peak ≡ y.peak =
    peak-one (series_of c y.at) g x.peak y.peak (subst (λ (a : SeriesAt). IsPeak (series_of c a) g x.peak) at (All-head is x xs first)) (All-head is y ys second) in
    let head : x ≡ y = λ i. record { at = at i; peak = peak i } in
    ap₂ (λ f fs. f ∷ fs) head (found-one c g xs ys rest (All-tail is x xs first) (All-tail is y ys second))

pub certificate-one : (c : Content) (g : Grid) (a b : List Line) → IsCertificate c g a → IsCertificate c g b → a ≡ b
certificate-one c g a b p q =
    p.is ∙ ap (λ found. GridLine g ∷ found_lines c found) (found-one c g p.found q.found (p.all ∙ sym q.all) p.peaks q.peaks) ∙ sym q.is

-- ---- the first wrong line

pub wrong-one : (c : Content) (text : List ℕ) (at other : ℕ) → IsWrongAt c text at → IsWrongAt c text other → at ≡ other
wrong-one c text at other p q = omega (arith, p.longest other q.front, q.longest at p.front)
