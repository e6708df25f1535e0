-- The certificate that is written is right.
use Rattle.std.proofs.Common.{◌≡◌, ℕ, zero, suc, ◌+◌, ◌<◌, List, [], ◌∷◌, map, refl, sym, ap, ap₂, subst, arith, ltb, inl, inr}
use Rattle.std.specs.List.{All, range_with_len}
use Rattle.std.proofs.lemmas.Bool.{cases_lt, cond-true, cond-false, lt-ltb, le-ltb}
use Rattle.std.proofs.lemmas.List.Elements.{All-tail}
use Rattle.corr_model.specs.Lags.{lag_of}
use Rattle.vis_records.specs.Content.{Content}
use Rattle.fringe_search.specs.declared.grid.Grid.{Grid}
use Rattle.fringe_search.specs.declared.grid.Peak.{Peak}
use Rattle.fringe_search.specs.declared.claim.Mark.{Mark}
use Rattle.fringe_search.specs.declared.claim.Mark.TheVariants.{Bound, Grid as Gridded}
use Rattle.fringe_search.specs.declared.places.SeriesAt.{SeriesAt}
use Rattle.fringe_search.specs.Layout.{Series, series_of, series_in}
use Rattle.fringe_search.specs.Sums.{power_of, power_at, bound_at}
use Rattle.fringe_search.specs.Peaks.{IsPeak, IsPointOf}
use Rattle.fringe_search.specs.Certificates.{Line, GridLine, lines_text, IsTrueMark, Claim, Due, AtGrid, AtPeak, from_lag, AreLines, IsRight}
use Rattle.fringe_search.specs.Written.{due_mark, lag_line, series_lines, Found, found_lines, IsCertificate}
use Rattle.fringe_search.proofs.Lines.{AreLines-append}
use Rattle.fringe_search.proofs.Reading.{lags_of, lag_due, peak_due}

-- the power of a peak's sum
pub peak_power : (s : Series) (g : Grid) (p : Peak) (n : ℕ) → IsPointOf s g p n → power_of p.re p.im ≡ power_at s g.divide n p.rate
unfolding power_at
peak_power s g p n h = ap₂ power_of h.re h.im

due_true : (s : Series) (g : Grid) (p : Peak) (h : IsPeak s g p) (lag : ℕ) → lag < s.lags
    → IsTrueMark s g h.number p.rate lag (due_mark s (power_of p.re p.im) lag)
due_true s g p h lag within =
    let top = power_of p.re p.im in
    elim (cases_lt (bound_at s lag) top) [
      | inl less ↦
          subst (λ (m : Mark). IsTrueMark s g h.number p.rate lag m) (sym (cond-true (ltb (bound_at s lag) top) Bound Gridded (lt-ltb (bound_at s lag) top less)))
          (subst (λ (t : ℕ). bound_at s lag < t) (peak_power s g p h.number h.point) less)
      | inr more ↦
          subst (λ (m : Mark). IsTrueMark s g h.number p.rate lag m) (sym (cond-false (ltb (bound_at s lag) top) Bound Gridded (le-ltb (bound_at s lag) top more)))
          (λ rate q. h.leads lag rate within q)
    ]

abbrev pub claim_at : (s : Series) → Grid → SeriesAt → (p : Peak) → ℕ → Claim
claim_at s g at p number = record { grid = g; at = at; lag = number; rate = p.rate }

lags_right : (c : Content) (g : Grid) (at : SeriesAt) (left : List SeriesAt) (p : Peak) (h : IsPeak (series_of c at) g p) (count number : ℕ)
    → number + count ≡ c.head.lags
    → AreLines c (from_lag c.head.lags (claim_at (series_of c at) g at p h.number) number left)
    (map (lag_line (series_of c at) (power_of p.re p.im)) (range_with_len number count)) (AtPeak g left)
unfolding AreLines
lags_right c g at left p h zero number e = peak_due c.head.lags (claim_at (series_of c at) g at p h.number) number left (omega arith)
lags_right c g at left p h (suc count) number e =
    let s = series_of c at in
    let k = claim_at s g at p h.number in
    let lines = map (lag_line s (power_of p.re p.im)) (range_with_len number (suc count)) in
    subst (λ (d : Due). AreLines c d lines (AtPeak g left)) (sym (lag_due c.head.lags k number left (omega arith))) (
      from_lag c.head.lags k (number + 1) left,
      record { lag_is = ap (λ n. lag_of n number) (lags_of c at); mark_is = due_true s g p h number (omega (arith, e, lags_of c at)); next_is = refl },
      lags_right c g at left p h count (number + 1) (omega arith),
    )

series_right : (c : Content) (g : Grid) (at : SeriesAt) (left : List SeriesAt) (p : Peak) → IsPeak (series_of c at) g p
    → AreLines c (AtPeak g (at ∷ left)) (series_lines (series_of c at) at p) (AtPeak g left)
unfolding AreLines
series_right c g at left p h = (
  from_lag c.head.lags (claim_at (series_of c at) g at p h.number) 0 left,
  record { at_is = refl; number = h.number; point = h.point; next_is = refl },
  lags_right c g at left p h (series_of c at).lags 0 (omega (arith, lags_of c at)),
)

found_right : (c : Content) (g : Grid) (found : List Found) → All (λ (f : Found). IsPeak (series_of c f.at) g f.peak) found
    → AreLines c (AtPeak g (map (λ (f : Found). f.at) found)) (found_lines c found) (AtPeak g [])
unfolding AreLines
found_right c g [] peaks = refl
found_right c g (f ∷ found) peaks =
    let left = map (λ (f : Found). f.at) found in
    AreLines-append c (AtPeak g (f.at ∷ left)) (AtPeak g left) (AtPeak g []) (series_lines (series_of c f.at) f.at f.peak) (found_lines c found)
    (series_right c g f.at left f.peak (peaks 0 f (omega arith)))
    (found_right c g found (All-tail (λ (f : Found). IsPeak (series_of c f.at) g f.peak) f found peaks))

pub certificate_right : (c : Content) (g : Grid) (lines : List Line) → IsCertificate c g lines → IsRight c (lines_text lines)
unfolding AreLines
certificate_right c g lines h =
    let found = subst (λ (left : List SeriesAt). AreLines c (AtPeak g left) (found_lines c h.found) (AtPeak g [])) h.all (found_right c g h.found h.peaks) in
    let all : AreLines c AtGrid (GridLine g ∷ found_lines c h.found) (AtPeak g []) = (AtPeak g (series_in c.head), refl, found) in
    record { grid = g; lines = lines; are = subst (λ (ls : List Line). AreLines c AtGrid ls (AtPeak g [])) (sym h.is) all; is = refl }
