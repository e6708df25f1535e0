-- The lines of the certificate on their way to a sink.
use Rattle.std.specs.Prelude.{MatchOption}
use Rattle.std.proofs.Common.{◌≡◌, ℕ, ◌+◌, List, [], ◌∷◌, ◌++◌, map, Option, None, Some, ℤ, refl, sym, ap, ap₂, subst, ◌∙◌, arith, append_assoc, append-nil}
use Rattle.std.specs.List.{All, range_with_len}
use Rattle.std.proofs.lemmas.Grind.{flat_map-append}
use Rattle.std.proofs.lemmas.List.{map-append}
use Rattle.std.proofs.lemmas.List.Elements.{All-nil, All-push}
use Rattle.std.proofs.lemmas.List.FromFn.{map-range_with_len_more}
use Rattle.corr_model.specs.Lags.{lag_of}
use Rattle.corr_model.specs.Records.{Head}
use Rattle.sink_text.specs.Written.{StretchState, Puts}
use Rattle.sink_text.proofs.WrittenText.{Puts-then}
use Rattle.vis_records.specs.Content.{Content}
use Rattle.fringe_search.specs.declared.grid.Grid.{Grid}
use Rattle.fringe_search.specs.declared.claim.Mark.{Mark}
use Rattle.fringe_search.specs.declared.peak.Point.{Point}
use Rattle.fringe_search.specs.declared.places.SeriesAt.{SeriesAt}
use Rattle.fringe_search.specs.Layout.{Series, IsSeriesAt, series_of, series_in}
use Rattle.fringe_search.specs.InOrder.{series_from, series_next}
use Rattle.fringe_search.specs.Sums.{power_of}
use Rattle.fringe_search.specs.Peaks.{IsPeak}
use Rattle.fringe_search.specs.Best.{IsBest}
use Rattle.fringe_search.specs.Certificates.{GridLine, PeakLine, LagLine, line_text, lines_text}
use Rattle.fringe_search.specs.Written.{due_mark, lag_line, lag_lines, series_lines, shown, Found, found_lines, PutsSeries, PutsCertificate}
use Rattle.fringe_search.proofs.Certified.{peak_power}
use Rattle.fringe_search.proofs.Reading.{shown_point}

-- the lines of the first lags, and of one more
pub lags_next : (s : Series) (top n : ℕ) (lag : ℤ) (mark : Mark) → lag ≡ lag_of s.lags n → mark ≡ due_mark s top n
    → lines_text (map (lag_line s top) (range_with_len 0 (n + 1))) ≡ lines_text (map (lag_line s top) (range_with_len 0 n)) ++ line_text (LagLine lag mark)
lags_next s top n lag mark l m =
    let before = map (lag_line s top) (range_with_len 0 n) in
    ap lines_text (map-range_with_len_more (lag_line s top) 0 n n (omega arith))
    ∙ flat_map-append line_text before (lag_line s top n ∷ [])
    ∙ ap (λ t. lines_text before ++ t) (append-nil (line_text (lag_line s top n)) ∙ sym (ap₂ (λ (x : ℤ) (y : Mark). line_text (LagLine x y)) l m))

-- the best point is the peak
pub best_peak : (s : Series) (g : Grid) (p : Point) → IsBest s g s.lags 0 p → IsPeak s g (shown (lag_of s.lags p.lag) p)
best_peak s g p b = record { number = p.lag; point = shown_point s g p b.point; leads = λ lag rate within q. b.ahead.earlier lag rate within q }

pub best_power : (s : Series) (g : Grid) (p : Point) → IsBest s g s.lags 0 p → p.power ≡ power_of (shown (lag_of s.lags p.lag) p).re (shown (lag_of s.lags p.lag) p).im
best_power s g p b = b.point.power ∙ sym (peak_power s g (shown (lag_of s.lags p.lag) p) p.lag (shown_point s g p b.point))

-- The grid's line and the lines of the series before the next one are put.
pub record IsPut (c : Content) (g : Grid) (next : Option SeriesAt) (old new : StretchState) (told_old told_new : Option (List ℕ))
    (faults_old faults_new : ℕ) : Type 0 where
  pub found : List Found
  pub all : map (λ (f : Found). f.at) found ++ series_next c.head next ≡ series_in c.head
  pub within : MatchOption next (Unit {0}) (IsSeriesAt c.head)
  pub peaks : All (λ (f : Found). IsPeak (series_of c f.at) g f.peak) found
  pub puts : Puts (lines_text (GridLine g ∷ found_lines c found)) old new told_old told_new faults_old faults_new

pub none_put : (c : Content) (g : Grid) (h : Head) (next : Option SeriesAt) {old new : StretchState} {t t' : Option (List ℕ)} {f f' : ℕ} → h ≡ c.head
    → series_in h ≡ series_next h next → MatchOption next (Unit {0}) (IsSeriesAt h) → Puts (line_text (GridLine g)) old new t t' f f'
    → IsPut c g next old new t t' f f'
none_put c g h next {old = old} {new = new} {t = t} {t' = t'} {f = f} {f' = f'} same first within puts = record {
  found = [];
  all = sym (subst (λ (x : Head). series_in x ≡ series_next x next) same first);
  within = subst (λ (x : Head). MatchOption next (Unit {0}) (IsSeriesAt x)) same within;
  peaks = All-nil (λ (f : Found). IsPeak (series_of c f.at) g f.peak);
  puts = subst (λ (text : List ℕ). Puts text old new t t' f f') (sym (append-nil (line_text (GridLine g)))) puts;
}

pub one_put : (c : Content) (g : Grid) (h : Head) (now : Option SeriesAt) (at : SeriesAt) (next : Option SeriesAt) {s₀ s₁ s₂ : StretchState} {t₀ t₁ t₂ : Option (List ℕ)}
    {f₀ f₁ f₂ : ℕ} → h ≡ c.head → now ≡ Some at → IsPut c g now s₀ s₁ t₀ t₁ f₀ f₁ → PutsSeries c g at s₁ s₂ t₁ t₂ f₁ f₂
    → series_from h at ≡ at ∷ series_next h next → MatchOption next (Unit {0}) (IsSeriesAt h) → IsPut c g next s₀ s₂ t₀ t₂ f₀ f₂
one_put c g h now at next {s₀ = s₀} {s₁ = s₁} {t₀ = t₀} {t₁ = t₁} {f₀ = f₀} {f₁ = f₁} same is put one rest within =
    let p = subst (λ (n : Option SeriesAt). IsPut c g n s₀ s₁ t₀ t₁ f₀ f₁) is put in
    let f : Found = record { at = at; peak = one.peak } in
    let own = series_lines (series_of c at) at one.peak in
    let before = GridLine g ∷ found_lines c p.found in
    let lines : found_lines c (p.found ++ f ∷ []) ≡ found_lines c p.found ++ own =
    flat_map-append (λ (f : Found). series_lines (series_of c f.at) f.at f.peak) p.found (f ∷ []) ∙ ap (λ ls. found_lines c p.found ++ ls) (append-nil own) in
    record {
      found = p.found ++ f ∷ [];
      all =
          ap (λ (xs : List SeriesAt). xs ++ series_next c.head next) (map-append (λ (f : Found). f.at) p.found (f ∷ []))
          ∙ append_assoc (map (λ (f : Found). f.at) p.found) (at ∷ []) (series_next c.head next)
          ∙ ap (λ (xs : List SeriesAt). map (λ (f : Found). f.at) p.found ++ xs) (sym (subst (λ (x : Head). series_from x at ≡ at ∷ series_next x next) same rest))
          ∙ p.all;
      within = subst (λ (x : Head). MatchOption next (Unit {0}) (IsSeriesAt x)) same within;
      peaks = All-push (λ (f : Found). IsPeak (series_of c f.at) g f.peak) p.found f p.peaks one.is;
      puts = Puts-then (ap (λ ls. lines_text (GridLine g ∷ ls)) lines ∙ flat_map-append line_text before own) p.puts one.puts;
    }

pub all_put : (c : Content) (g : Grid) (now : Option SeriesAt) {old new : StretchState} {t t' : Option (List ℕ)} {f f' : ℕ} → now ≡ None → IsPut c g now old new t t' f f'
    → PutsCertificate c g old new t t' f f'
all_put c g now {old = old} {new = new} {t = t} {t' = t'} {f = f} {f' = f'} is put =
    let p = subst (λ (n : Option SeriesAt). IsPut c g n old new t t' f f') is put in
    record {
      lines = GridLine g ∷ found_lines c p.found;
      is = record { found = p.found; all = sym (append-nil (map (λ (f : Found). f.at) p.found)) ∙ p.all; peaks = p.peaks; is = refl };
      puts = p.puts;
    }

-- the line of the best point and those of the lags are put
pub series_put : (c : Content) (g : Grid) (at : SeriesAt) (s : Series) (p : Point) (lag : ℤ) {s₀ s₁ s₂ : StretchState} {t₀ t₁ t₂ : Option (List ℕ)}
    {f₀ f₁ f₂ : ℕ} → s ≡ series_of c at → IsBest s g s.lags 0 p → lag ≡ lag_of s.lags p.lag
    → Puts (line_text (PeakLine at (record { lag = lag; rate = p.rate; re = p.sum.re; im = p.sum.im }))) s₀ s₁ t₀ t₁ f₀ f₁
    → Puts (lines_text (lag_lines s p.power)) s₁ s₂ t₁ t₂ f₁ f₂ → PutsSeries c g at s₀ s₂ t₀ t₂ f₀ f₂
series_put c g at s p lag {s₀ = s₀} {s₂ = s₂} {t₀ = t₀} {t₂ = t₂} {f₀ = f₀} {f₂ = f₂} same best lag_is peak lags =
    let line = ap (λ (z : ℤ). line_text (PeakLine at (record { lag = z; rate = p.rate; re = p.sum.re; im = p.sum.im }))) (sym lag_is) in
    let later = ap (λ (n : ℕ). lines_text (lag_lines s n)) (sym (best_power s g p best)) in
    let all : Puts (lines_text (series_lines s at (shown (lag_of s.lags p.lag) p))) s₀ s₂ t₀ t₂ f₀ f₂ = Puts-then (ap₂ (λ (x y : List ℕ). x ++ y) line later) peak lags in
    record {
      peak = shown (lag_of s.lags p.lag) p;
      is = subst (λ (x : Series). IsPeak x g (shown (lag_of s.lags p.lag) p)) same (best_peak s g p best);
      puts = subst (λ (x : Series). Puts (lines_text (series_lines x at (shown (lag_of s.lags p.lag) p))) s₀ s₂ t₀ t₂ f₀ f₂) same all;
    }
