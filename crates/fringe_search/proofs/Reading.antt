-- The lines of a series, read one after another.
use Rattle.std.proofs.Common.{◌≡◌, ◌≢◌, ℕ, ◌+◌, ◌<◌, ◌≤◌, List, [], ◌∷◌, ◌++◌, ℤ, refl, sym, ap, subst, ◌∙◌, arith, ltb}
use Rattle.std.proofs.lemmas.Bool.{cond-true, cond-false, lt-ltb, le-ltb}
use Rattle.corr_model.specs.Lags.{lag_of}
use Rattle.vis_records.specs.Content.{Content}
use Rattle.fringe_search.specs.declared.grid.Grid.{Grid}
use Rattle.fringe_search.specs.declared.grid.Peak.{Peak}
use Rattle.fringe_search.specs.declared.claim.Mark.{Mark}
use Rattle.fringe_search.specs.declared.peak.Point.{Point}
use Rattle.fringe_search.specs.declared.places.SeriesAt.{SeriesAt}
use Rattle.fringe_search.specs.Layout.{Series, series_of}
use Rattle.fringe_search.specs.Peaks.{IsPointOf}
use Rattle.fringe_search.specs.Best.{IsPoint}
use Rattle.fringe_search.specs.Written.{shown}
use Rattle.fringe_search.specs.Taken.{HasPeakLine, HasLagLine}
use Rattle.fringe_search.specs.Certificates.{GridLine, PeakLine, LagLine, line_text, IsTrueMark, Claim, Due, AtGrid, AtPeak, AtLag, from_lag}
use Rattle.fringe_search.specs.Fronts.{IsRead, IsStuck, IsStopped}
use Rattle.fringe_search.proofs.Lines.{AreFew, due_number, read_none, read_line, read_then}

pub lags_of : (c : Content) (at : SeriesAt) → (series_of c at).lags ≡ c.head.lags
unfolding series_of
lags_of c at = refl

pub few_lags : (c : Content) → c.head.lags ≤ 1024 → AreFew c
few_lags c few = λ at. omega (arith, few, lags_of c at)

-- what is due beside a peak
pub lag_due : (lags : ℕ) (k : Claim) (lag : ℕ) (left : List SeriesAt) → lag < lags → from_lag lags k lag left ≡ AtLag k lag left
lag_due lags k lag left h = cond-true (ltb lag lags) (AtLag k lag left) (AtPeak k.grid left) (lt-ltb lag lags h)

pub peak_due : (lags : ℕ) (k : Claim) (lag : ℕ) (left : List SeriesAt) → lags ≤ lag → from_lag lags k lag left ≡ AtPeak k.grid left
peak_due lags k lag left h = cond-false (ltb lag lags) (AtLag k lag left) (AtPeak k.grid left) (le-ltb lag lags h)

-- a point as its line shows it
pub shown_point : (s : Series) (g : Grid) (p : Point) → IsPoint s g p → IsPointOf s g (shown (lag_of s.lags p.lag) p) p.lag
shown_point s g p h = record { within = h.lag; lag = refl; rate = h.rate; re = h.re; im = h.im }

abbrev pub claim_of : Grid → SeriesAt → Point → Claim
claim_of g at p = record { grid = g; at = at; lag = p.lag; rate = p.rate }

-- the line of a peak
pub read_peak : (c : Content) (g : Grid) (at : SeriesAt) (left : List SeriesAt) (s : Series) (p : Point) (text rest : List ℕ) → s ≡ series_of c at
    → HasPeakLine s g at text p rest → IsRead c (AtPeak g (at ∷ left)) text (from_lag c.head.lags (claim_of g at p) 0 left) rest
read_peak c g at left s p text rest same h =
    let here = subst (λ (x : Series). HasPeakLine x g at text p rest) same h in
    read_line c (AtPeak g (at ∷ left)) (from_lag c.head.lags (claim_of g at p) 0 left) (PeakLine at (shown (lag_of (series_of c at).lags p.lag) p)) text rest
    (record { at_is = refl; number = p.lag; point = shown_point (series_of c at) g p here.point; next_is = refl }) here.is

pub no_peak : (c : Content) (g : Grid) (at : SeriesAt) (left : List SeriesAt) (s : Series) (text : List ℕ) → s ≡ series_of c at
    → ((p : Peak) (n : ℕ) (rest : List ℕ) → IsPointOf s g p n → text ≢ line_text (PeakLine at p) ++ rest)
    → IsStopped c (AtPeak g (at ∷ left)) text text
no_peak c g at left s text same h = record { next = AtPeak g (at ∷ left); read = read_none c (AtPeak g (at ∷ left)) text; stuck = stuck; goes_on = goes_on }
  where
    goes_on : (k : Grid) → AtPeak g (at ∷ left) ≡ AtPeak k [] → text ≢ []
    goes_on k e = let apart = ap due_number e in absurd (omega arith)

    no_line : (p : Peak) (n : ℕ) (rest : List ℕ) → IsPointOf (series_of c at) g p n → text ≢ line_text (PeakLine at p) ++ rest
    no_line = subst (λ (x : Series). (p : Peak) (n : ℕ) (rest : List ℕ) → IsPointOf x g p n → text ≢ line_text (PeakLine at p) ++ rest) same h

    stuck : IsStuck c (AtPeak g (at ∷ left)) text
    stuck (GridLine k) next rest is e = absurd is
    stuck (LagLine l mark) next rest is e = absurd is
    stuck (PeakLine at' p) next rest is e = no_line p is.number rest is.point (e ∙ ap (λ (x : SeriesAt). line_text (PeakLine x p) ++ rest) is.at_is)

-- the line of a lag
pub read_lag : (c : Content) (g : Grid) (at : SeriesAt) (left : List SeriesAt) (s : Series) (p : Point) (lag : ℕ) (text rest : List ℕ)
    → s ≡ series_of c at → lag < s.lags → HasLagLine s g p lag text rest
    → IsRead c (from_lag c.head.lags (claim_of g at p) lag left) text (from_lag c.head.lags (claim_of g at p) (lag + 1) left) rest
read_lag c g at left s p lag text rest same within h =
    let here = subst (λ (x : Series). HasLagLine x g p lag text rest) same h in
    let short : lag < c.head.lags = omega (arith, within, ap (λ (x : Series). x.lags) same, lags_of c at) in
    let next = from_lag c.head.lags (claim_of g at p) (lag + 1) left in
    subst (λ (d : Due). IsRead c d text next rest) (sym (lag_due c.head.lags (claim_of g at p) lag left short))
    (read_line c (AtLag (claim_of g at p) lag left) next (LagLine (lag_of (series_of c at).lags lag) here.mark) text rest
    (record { lag_is = ap (λ n. lag_of n lag) (lags_of c at); mark_is = here.holds; next_is = refl }) here.is)

pub no_lag : (c : Content) (g : Grid) (at : SeriesAt) (left : List SeriesAt) (s : Series) (p : Point) (lag : ℕ) (whole text : List ℕ)
    → s ≡ series_of c at → lag < s.lags
    → IsRead c (AtPeak g (at ∷ left)) whole (from_lag c.head.lags (claim_of g at p) lag left) text
    → ((mark : Mark) (rest : List ℕ) → IsTrueMark s g p.lag p.rate lag mark → text ≢ line_text (LagLine (lag_of s.lags lag) mark) ++ rest)
    → IsStopped c (AtPeak g (at ∷ left)) whole text
no_lag c g at left s p lag whole text same within read h =
    let short : lag < c.head.lags = omega (arith, within, ap (λ (x : Series). x.lags) same, lags_of c at) in
    record { next = AtLag (claim_of g at p) lag left; read = subst (λ (d : Due). IsRead c (AtPeak g (at ∷ left)) whole d text) (lag_due c.head.lags (claim_of g at p) lag left short) read; stuck = stuck; goes_on = goes_on }
  where
    goes_on : (k : Grid) → AtLag (claim_of g at p) lag left ≡ AtPeak k [] → text ≢ []
    goes_on k e = let apart = ap due_number e in absurd (omega arith)

    no_line : (mark : Mark) (rest : List ℕ) → IsTrueMark (series_of c at) g p.lag p.rate lag mark
        → text ≢ line_text (LagLine (lag_of (series_of c at).lags lag) mark) ++ rest
    no_line = subst (λ (x : Series). (mark : Mark) (rest : List ℕ) → IsTrueMark x g p.lag p.rate lag mark → text ≢ line_text (LagLine (lag_of x.lags lag) mark) ++ rest) same h

    stuck : IsStuck c (AtLag (claim_of g at p) lag left) text
    stuck (GridLine k) next rest is e = absurd is
    stuck (PeakLine at' q) next rest is e = absurd is
    stuck (LagLine l mark) next rest is e =
        no_line mark rest is.mark_is (e ∙ ap (λ (x : ℤ). line_text (LagLine x mark) ++ rest) (is.lag_is ∙ ap (λ n. lag_of n lag) (sym (lags_of c at))))

pub stopped_then : (c : Content) (s m : Due) (text middle rest : List ℕ) → IsRead c s text m middle → IsStopped c m middle rest → IsStopped c s text rest
stopped_then c s m text middle rest a b = record { next = b.next; read = read_then c s m b.next text middle rest a b.read; stuck = b.stuck; goes_on = b.goes_on }

-- the line of the grid
pub no_grid : (c : Content) (text : List ℕ) → ((g : Grid) (rest : List ℕ) → text ≢ line_text (GridLine g) ++ rest) → IsStopped c AtGrid text text
no_grid c text no_line = record { next = AtGrid; read = read_none c AtGrid text; stuck = stuck; goes_on = goes_on }
  where
    goes_on : (k : Grid) → AtGrid ≡ AtPeak k [] → text ≢ []
    goes_on k e = let apart = ap due_number e in absurd (omega arith)

    stuck : IsStuck c AtGrid text
    stuck (GridLine g) next rest is e = no_line g rest e
    stuck (PeakLine at p) next rest is e = absurd is
    stuck (LagLine l mark) next rest is e = absurd is

-- no line is due, and the text goes on
pub no_end : (c : Content) (g : Grid) (text rest : List ℕ) → IsRead c AtGrid text (AtPeak g []) rest → rest ≢ [] → IsStopped c AtGrid text rest
no_end c g text rest read more = record { next = AtPeak g []; read = read; stuck = λ line next behind is e. absurd is; goes_on = λ h e. more }
