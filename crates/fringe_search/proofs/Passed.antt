-- The series that are passed, and those that are left.
use Rattle.std.specs.Prelude.{MatchOption}
use Rattle.std.proofs.Common.{◌≡◌, ℕ, ◌+◌, List, [], ◌∷◌, ◌++◌, Option, None, Some, sym, ap, subst, ◌∙◌, append_assoc, append-nil}
use Rattle.std.specs.List.{All}
use Rattle.std.proofs.lemmas.List.Elements.{All-push}
use Rattle.corr_model.specs.Records.{Head}
use Rattle.vis_records.specs.Content.{Content}
use Rattle.fringe_search.specs.declared.places.SeriesAt.{SeriesAt}
use Rattle.fringe_search.specs.Layout.{Series, IsSeriesAt, series_in, series_of}
use Rattle.fringe_search.specs.InOrder.{series_from, series_next}
use Rattle.fringe_search.specs.Peaks.{IsSmall, AreSmall, IsFirstLargeOf, IsFirstLarge}
use Rattle.fringe_search.proofs.Turns.{Stands, stands_all, next_baseline}

-- those before the next one have small amplitudes
pub record IsPassed (c : Content) (next : Option SeriesAt) : Type 0 where
  pub before : List SeriesAt
  pub is : series_in c.head ≡ before ++ series_next c.head next
  pub within : MatchOption next (Unit {0}) (IsSeriesAt c.head)
  pub small : All (λ (at : SeriesAt). IsSmall (series_of c at)) before

pub one_passed : (c : Content) (h : Head) (at : SeriesAt) (next : Option SeriesAt) (s : Series) → h ≡ c.head → IsPassed c (Some at)
    → s ≡ series_of c at → IsSmall s → series_from h at ≡ at ∷ series_next h next → MatchOption next (Unit {0}) (IsSeriesAt h) → IsPassed c next
one_passed c h at next s same p is small rest within = record {
  before = p.before ++ at ∷ [];
  is =
      p.is ∙ ap (λ t. p.before ++ t) (subst (λ (x : Head). series_from x at ≡ at ∷ series_next x next) same rest)
      ∙ sym (append_assoc p.before (at ∷ []) (series_next c.head next));
  within = subst (λ (x : Head). MatchOption next (Unit {0}) (IsSeriesAt x)) same within;
  small = All-push (λ (at : SeriesAt). IsSmall (series_of c at)) p.before at p.small (subst (λ (x : Series). IsSmall x) is small);
}

pub all_passed : (c : Content) → IsPassed c None → AreSmall c
all_passed c p = λ at is.
    let all : series_in c.head ≡ p.before = p.is ∙ append-nil p.before in
    let (k, within, here) = subst (λ (xs : List SeriesAt). Stands xs at) all (stands_all c.head at is) in
    subst (λ (s : SeriesAt). IsSmall (series_of c s)) here (p.small k at within)

pub large_here : (c : Content) (at : SeriesAt) (s : Series) (amplitude : ℕ) → IsPassed c (Some at) → s ≡ series_of c at → IsFirstLargeOf s amplitude
    → IsFirstLarge c amplitude
large_here c at s amplitude p same first = record {
  before = p.before;
  at = at;
  behind = series_from c.head (record { scan = at.scan; product = at.product; baseline = at.baseline + 1 });
  is = p.is ∙ ap (λ t. p.before ++ t) (next_baseline c.head at p.within);
  small = p.small;
  first = subst (λ (x : Series). IsFirstLargeOf x amplitude) same first;
}
