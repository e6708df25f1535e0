-- The series whose lines are read.
use Rattle.std.specs.Prelude.{MatchOption}
use Rattle.std.proofs.Common.{◌≡◌, ℕ, ◌+◌, List, [], ◌∷◌, ◌++◌, Option, None, Some, sym, ap, subst}
use Rattle.corr_model.specs.Records.{Head}
use Rattle.vis_records.specs.Content.{Content}
use Rattle.fringe_search.specs.declared.grid.Grid.{Grid}
use Rattle.fringe_search.specs.declared.places.SeriesAt.{SeriesAt}
use Rattle.fringe_search.specs.Layout.{IsSeriesAt, series_in}
use Rattle.fringe_search.specs.InOrder.{series_from, series_next}
use Rattle.fringe_search.specs.Certificates.{GridLine, line_text, AtGrid, AtPeak}
use Rattle.fringe_search.specs.Fronts.{IsRead, IsStopped}
use Rattle.fringe_search.proofs.Lines.{read_line, read_then}
use Rattle.fringe_search.proofs.Reading.{stopped_then}
use Rattle.fringe_search.proofs.Turns.{next_baseline}

-- The grid's line and the lines of the series before the next one are read.
pub record IsChecked (c : Content) (g : Grid) (text : List ℕ) (next : Option SeriesAt) (rest : List ℕ) : Type 0 where
  pub read : IsRead c AtGrid text (AtPeak g (series_next c.head next)) rest
  pub within : MatchOption next (Unit {0}) (IsSeriesAt c.head)

pub none_checked : (c : Content) (g : Grid) (h : Head) (text rest : List ℕ) (next : Option SeriesAt) → h ≡ c.head
    → text ≡ line_text (GridLine g) ++ rest → series_in h ≡ series_next h next → MatchOption next (Unit {0}) (IsSeriesAt h)
    → IsChecked c g text next rest
none_checked c g h text rest next same is first within = record {
  read = read_line c AtGrid (AtPeak g (series_next c.head next)) (GridLine g) text rest
      (ap (λ (xs : List SeriesAt). AtPeak g xs) (sym (subst (λ (x : Head). series_in x ≡ series_next x next) same first))) is;
  within = subst (λ (x : Head). MatchOption next (Unit {0}) (IsSeriesAt x)) same within;
}

pub one_checked : (c : Content) (g : Grid) (h : Head) (now : Option SeriesAt) (at : SeriesAt) (next : Option SeriesAt) (text middle rest : List ℕ)
    → h ≡ c.head → now ≡ Some at → IsChecked c g text now middle → ((left : List SeriesAt) → IsRead c (AtPeak g (at ∷ left)) middle (AtPeak g left) rest)
    → series_from h at ≡ at ∷ series_next h next → MatchOption next (Unit {0}) (IsSeriesAt h) → IsChecked c g text next rest
one_checked c g h now at next text middle rest same is checked one after within =
    let k = subst (λ (n : Option SeriesAt). IsChecked c g text n middle) is checked in
    let left = series_next c.head next in
    let here : series_from c.head at ≡ at ∷ left = subst (λ (x : Head). series_from x at ≡ at ∷ series_next x next) same after in
    let read = subst (λ (xs : List SeriesAt). IsRead c AtGrid text (AtPeak g xs) middle) here k.read in
    record {
      read = read_then c AtGrid (AtPeak g (at ∷ left)) (AtPeak g left) text middle rest read (one left);
      within = subst (λ (x : Head). MatchOption next (Unit {0}) (IsSeriesAt x)) same within;
    }

pub one_stopped : (c : Content) (g : Grid) (now : Option SeriesAt) (at : SeriesAt) (text middle rest : List ℕ) → now ≡ Some at → IsChecked c g text now middle
    → ((left : List SeriesAt) → IsStopped c (AtPeak g (at ∷ left)) middle rest) → IsStopped c AtGrid text rest
one_stopped c g now at text middle rest is checked one =
    let k = subst (λ (n : Option SeriesAt). IsChecked c g text n middle) is checked in
    let behind = series_from c.head (record { scan = at.scan; product = at.product; baseline = at.baseline + 1 }) in
    let read = subst (λ (xs : List SeriesAt). IsRead c AtGrid text (AtPeak g xs) middle) (next_baseline c.head at k.within) k.read in
    stopped_then c AtGrid (AtPeak g (at ∷ behind)) text middle rest read (one behind)

pub all_checked : (c : Content) (g : Grid) (now : Option SeriesAt) (text rest : List ℕ) → now ≡ None → IsChecked c g text now rest
    → IsRead c AtGrid text (AtPeak g []) rest
all_checked c g now text rest is checked = (subst (λ (n : Option SeriesAt). IsChecked c g text n rest) is checked).read
