-- What a right certificate says: each peak's line names the peak.
use Rattle.std.proofs.Common.{◌≡◌, ℕ, zero, suc, ◌+◌, ◌<◌, ◌≤◌, List, [], ◌∷◌, ◌++◌, ℤ, refl, sym, ap, ap₂, subst, ◌∙◌, arith, inl, inr}
use Rattle.std.specs.Prelude.{flat_map}
use Rattle.std.specs.List.{All}
use Rattle.std.proofs.lemmas.Bool.{cases_lt}
use Rattle.std.proofs.lemmas.Grind.{flat_map-append}
use Rattle.std.proofs.lemmas.List.Elements.{All-nil, All-cons, All-append}
use Rattle.vis_records.specs.Content.{Content}
use Rattle.fringe_search.specs.declared.grid.Grid.{Grid}
use Rattle.fringe_search.specs.declared.claim.Mark.{Mark}
use Rattle.fringe_search.specs.declared.claim.Mark.TheVariants.{Bound, Grid as Gridded}
use Rattle.fringe_search.specs.declared.places.SeriesAt.{SeriesAt}
use Rattle.fringe_search.specs.Layout.{Series, series_of, series_in}
use Rattle.fringe_search.specs.Sums.{power_at}
use Rattle.fringe_search.specs.Peaks.{IsRate, Leads, IsPeak}
use Rattle.fringe_search.specs.Laws.{IsOfPeak, series_named, HasItsPeaks}
use Rattle.fringe_search.specs.Certificates.{Line, GridLine, PeakLine, LagLine, IsTrueMark, Claim, Due, AtGrid, AtPeak, AtLag, from_lag, AreLines, IsRight}
use Rattle.fringe_search.proofs.Bounds.{power_at-within}
use Rattle.fringe_search.proofs.Lines.{due_number}
use Rattle.fringe_search.proofs.Reading.{lags_of, lag_due, peak_due}

leads_mark : (s : Series) (g : Grid) (l : ℕ) (r : ℤ) (lag : ℕ) (mark : Mark) → IsTrueMark s g l r lag mark → (rate : ℤ) → IsRate g.rates rate
    → Leads (power_at s g.divide) l r lag rate
leads_mark s g l r lag Bound h rate q =
    let within = power_at-within s g.divide lag rate in
    record { most = omega arith; lag_first = λ e. absurd (omega arith); rate_first = λ e _. absurd (omega arith) }
leads_mark s g l r lag Gridded h rate q = h rate q

-- the grid on which a peak is due
grid_in : Grid → Due → Grid
grid_in d AtGrid = d
grid_in d (AtPeak g left) = g
grid_in d (AtLag k number left) = d

abbrev pub IsTrueLag : Content → Claim → ℕ → Type 0
IsTrueLag c k lag = (mark : Mark) × IsTrueMark (series_of c k.at) k.grid k.lag k.rate lag mark

-- the lines of the lags beside a peak, and those behind
record IsBeside (c : Content) (k : Claim) (h : Grid) (number : ℕ) (left : List SeriesAt) (lines : List Line) : Type 0 where
  pub own : List Line
  pub rest : List Line
  pub is : lines ≡ own ++ rest
  pub each : (lag : ℕ) → number ≤ lag → lag < c.head.lags → IsTrueLag c k lag
  pub unnamed : flat_map series_named own ≡ []
  pub free : All (IsOfPeak c h) own
  pub are : AreLines c (AtPeak k.grid left) rest (AtPeak h [])

beside : (c : Content) (k : Claim) (h : Grid) (left : List SeriesAt) (count number : ℕ) (lines : List Line) → number + count ≡ c.head.lags
    → AreLines c (from_lag c.head.lags k number left) lines (AtPeak h []) → IsBeside c k h number left lines
unfolding AreLines
beside c k h left zero number lines e are = record {
  own = [];
  rest = lines;
  is = refl;
  each = λ lag low high. absurd (omega arith);
  unnamed = refl;
  free = All-nil (IsOfPeak c h);
  are = subst (λ (d : Due). AreLines c d lines (AtPeak h [])) (peak_due c.head.lags k number left (omega arith)) are;
}
beside c k h left (suc count) number lines e are =
    one lines (subst (λ (d : Due). AreLines c d lines (AtPeak h [])) (lag_due c.head.lags k number left (omega arith)) are)
    (λ more are. beside c k h left count (number + 1) more (omega arith) are)
  where
    one : (lines : List Line) → AreLines c (AtLag k number left) lines (AtPeak h [])
        → ((more : List Line) → AreLines c (from_lag c.head.lags k (number + 1) left) more (AtPeak h []) → IsBeside c k h (number + 1) left more)
        → IsBeside c k h number left lines
    one [] are next = let apart = ap due_number are in absurd (omega arith)
    one (GridLine g ∷ more) (mid, is, are) next = absurd is
    one (PeakLine at p ∷ more) (mid, is, are) next = absurd is
    one (LagLine l mark ∷ more) (mid, is, are) next =
        let b = next more (subst (λ (d : Due). AreLines c d more (AtPeak h [])) is.next_is are) in record {
          own = LagLine l mark ∷ b.own;
          rest = b.rest;
          is = ap (λ ls. LagLine l mark ∷ ls) b.is;
          each = λ lag low high. elim (cases_lt number lag) [
            | inl less ↦ b.each lag (omega arith) high
            | inr same ↦ (let e : number ≡ lag = omega arith in subst (λ n. IsTrueLag c k n) e (mark, is.mark_is))
          ];
          unnamed = b.unnamed;
          free = All-cons (IsOfPeak c h) (LagLine l mark) b.own tt b.free;
          are = b.are;
        }

-- what the lines from a peak on say
record IsNamed (c : Content) (g h : Grid) (left : List SeriesAt) (lines : List Line) : Type 0 where
  pub grid : g ≡ h
  pub peaks : All (IsOfPeak c h) lines
  pub series : flat_map series_named lines ≡ left

named : (c : Content) (g h : Grid) (left : List SeriesAt) (lines : List Line) → AreLines c (AtPeak g left) lines (AtPeak h []) → IsNamed c g h left lines
unfolding AreLines grid_in
named c g h [] [] are = record { grid = ap (grid_in g) are; peaks = All-nil (IsOfPeak c h); series = refl }
named c g h [] (line ∷ lines) (mid, is, are) = absurd is
named c g h (at ∷ left) [] are = let apart = ap due_number are in absurd (omega arith)
named c g h (at ∷ left) (GridLine k ∷ lines) (mid, is, are) = absurd is
named c g h (at ∷ left) (LagLine l mark ∷ lines) (mid, is, are) = absurd is
named c g h (at ∷ left) (PeakLine at' p ∷ lines) (mid, is, are) =
    let k : Claim = record { grid = g; at = at; lag = is.number; rate = p.rate } in
    let b = beside c k h left c.head.lags 0 lines (omega arith) (subst (λ (d : Due). AreLines c d lines (AtPeak h [])) is.next_is are) in
    let n = named c g h left b.rest b.are in
    let peak : IsPeak (series_of c at) g p = record {
      number = is.number;
      point = is.point;
      leads = λ lag rate within q.
          let (mark, true_mark) = b.each lag (omega arith) (omega (arith, within, lags_of c at)) in
          leads_mark (series_of c at) g is.number p.rate lag mark true_mark rate q;
    } in
    let here = subst (λ (x : Grid). IsPeak (series_of c at) x p) n.grid peak in
    record {
      grid = n.grid;
      peaks = All-cons (IsOfPeak c h) (PeakLine at' p) lines (subst (λ (x : SeriesAt). IsPeak (series_of c x) h p) (sym is.at_is) here)
          (subst (λ (ls : List Line). All (IsOfPeak c h) ls) (sym b.is) (All-append (IsOfPeak c h) b.own b.rest b.free n.peaks));
      series =
          ap (λ ls. at' ∷ flat_map series_named ls) b.is
          ∙ ap (λ xs. at' ∷ xs) (flat_map-append series_named b.own b.rest ∙ ap₂ (λ x y. x ++ y) b.unnamed n.series)
          ∙ ap (λ (x : SeriesAt). x ∷ left) is.at_is;
    }

pub peaks_named : (c : Content) (text : List ℕ) (right : IsRight c text) → HasItsPeaks c right.grid right.lines
unfolding AreLines
peaks_named c text right = whole right.lines right.are
  where
    whole : (lines : List Line) → AreLines c AtGrid lines (AtPeak right.grid []) → HasItsPeaks c right.grid lines
    whole [] are = let apart = ap due_number are in absurd (omega arith)
    whole (PeakLine at p ∷ lines) (mid, is, are) = absurd is
    whole (LagLine l mark ∷ lines) (mid, is, are) = absurd is
    whole (GridLine g ∷ lines) (mid, is, are) =
        let n = named c g right.grid (series_in c.head) lines (subst (λ (d : Due). AreLines c d lines (AtPeak right.grid [])) is are) in
        record { peaks = All-cons (IsOfPeak c right.grid) (GridLine g) lines tt n.peaks; series = n.series }
