-- Lines one behind another.
use Rattle.std.proofs.Common.{◌≡◌, ◌≢◌, ℕ, ◌+◌, ◌<◌, ◌≤◌, List, [], ◌∷◌, ◌++◌, length, ℤ, FitsSigned, codes, decimal, get_or, refl, sym, ap, ap₂, subst, ◌∙◌, arith, append_assoc, append-nil, length-append}
use Rattle.std.specs.Fmt.{signed_decimal}
use Rattle.std.specs.Int.{w32}
use Rattle.std.proofs.lemmas.Grind.{flat_map-append}
use Rattle.std.proofs.lemmas.Int.{ints}
use Rattle.std.proofs.lemmas.List.{append_cancel_left}
use Rattle.corr_model.specs.Lags.{lag_of}
use Rattle.vis_records.specs.Content.{Content}
use Rattle.fringe_search.specs.declared.grid.Grid.{Grid}
use Rattle.fringe_search.specs.declared.grid.Peak.{Peak}
use Rattle.fringe_search.specs.declared.claim.Mark.{Mark}
use Rattle.fringe_search.specs.declared.claim.Mark.TheVariants.{Bound, Grid as Gridded}
use Rattle.fringe_search.specs.declared.places.SeriesAt.{SeriesAt}
use Rattle.fringe_search.specs.Layout.{series_of, series_in}
use Rattle.fringe_search.specs.Sums.{re_at, im_at}
use Rattle.fringe_search.specs.Peaks.{IsRate}
use Rattle.fringe_search.specs.Certificates.{Line, GridLine, PeakLine, LagLine, line_text, lines_text, mark_text, place_text, sums_text, Claim, Due, AtGrid, AtPeak, AtLag, from_lag, IsPeakLine, IsLagLine, IsLine, AreLines, IsRight}
use Rattle.fringe_search.specs.Fronts.{IsRead, IsStuck, IsWrongAt, IsStopped}
use Rattle.fringe_search.proofs.Texts.{grid_parts, peak_parts, lag_parts, numbers_apart, signed_apart, same_grid}

pub AreLines-append : (c : Content) (s m e : Due) (a b : List Line) → AreLines c s a m → AreLines c m b e → AreLines c s (a ++ b) e
unfolding AreLines
AreLines-append c s m e [] b p q = subst (λ (x : Due). AreLines c x b e) (sym p) q
AreLines-append c s m e (l ∷ a) b (mid, one, more) q = (mid, one, AreLines-append c mid m e a b more q)

pub read_none : (c : Content) (s : Due) (text : List ℕ) → IsRead c s text s text
unfolding AreLines
read_none c s text = record { lines = []; are = refl; is = refl }

pub read_line : (c : Content) (s n : Due) (line : Line) (text rest : List ℕ) → IsLine c s line n → text ≡ line_text line ++ rest → IsRead c s text n rest
unfolding AreLines
read_line c s n line text rest h is = record { lines = line ∷ []; are = (n, h, refl); is = is ∙ ap (λ t. t ++ rest) (sym (append-nil (line_text line))) }

pub read_then : (c : Content) (s m e : Due) (text middle rest : List ℕ) → IsRead c s text m middle → IsRead c m middle e rest → IsRead c s text e rest
read_then c s m e text middle rest a b = record {
  lines = a.lines ++ b.lines;
  are = AreLines-append c s m e a.lines b.lines a.are b.are;
  is =
      a.is ∙ ap (λ t. lines_text a.lines ++ t) b.is ∙ sym (append_assoc (lines_text a.lines) (lines_text b.lines) rest)
      ∙ ap (λ t. t ++ rest) (sym (flat_map-append line_text a.lines b.lines));
}

pub read_short : (c : Content) (s e : Due) (text rest : List ℕ) → IsRead c s text e rest → length rest ≤ length text
read_short c s e text rest r = omega (arith, ap length r.is, length-append (lines_text r.lines) rest)

-- what is due, told apart
abbrev pub due_number : Due → ℕ
due_number AtGrid = 0
due_number (AtPeak g []) = 1
due_number (AtPeak g (at ∷ left)) = 2
due_number (AtLag k number left) = 3

-- ---- a text begins with one line that is due and true

record IsSame (n m : Due) (x y : List ℕ) : Type 0 where
  pub next : n ≡ m
  pub rest : x ≡ y

one_mark : (a b : Mark) (x y : List ℕ) → mark_text a ++ x ≡ mark_text b ++ y → x ≡ y
one_mark Bound Bound x y e = append_cancel_left (codes " bound\n") x y e
one_mark Bound Gridded x y e = let apart = ap {B = ℕ} (λ (xs : List ℕ). get_or xs 1 0) e in absurd (omega arith)
one_mark Gridded Bound x y e = let apart = ap {B = ℕ} (λ (xs : List ℕ). get_or xs 1 0) e in absurd (omega arith)
one_mark Gridded Gridded x y e = append_cancel_left (codes " grid\n") x y e

one_grid : (c : Content) (g h : Grid) (n m : Due) (x y : List ℕ) → n ≡ AtPeak g (series_in c.head) → m ≡ AtPeak h (series_in c.head)
    → line_text (GridLine g) ++ x ≡ line_text (GridLine h) ++ y → IsSame n m x y
one_grid c g h n m x y p q e =
    let words = append_cancel_left (codes "grid ") (decimal g.rates ++ 32 ∷ (decimal g.divide ++ 10 ∷ x)) (decimal h.rates ++ 32 ∷ (decimal h.divide ++ 10 ∷ y))
    (sym (grid_parts g x) ∙ e ∙ grid_parts h y) in
    let rates = numbers_apart g.rates h.rates 32 (decimal g.divide ++ 10 ∷ x) (decimal h.divide ++ 10 ∷ y) (omega arith) (omega (arith, g.rates_within)) (omega (arith, h.rates_within)) words in
    let divide = numbers_apart g.divide h.divide 10 x y (omega arith) (omega (arith, g.divide_within)) (omega (arith, h.divide_within)) rates.rest in
    record { next = p ∙ ap (λ (k : Grid). AtPeak k (series_in c.head)) (same_grid g h rates.number divide.number) ∙ sym q; rest = divide.rest }

pub lag_fits : (lags n : ℕ) (z : ℤ) → lags ≤ 1024 → n < lags → z ≡ lag_of lags n → FitsSigned w32 z
lag_fits lags n z few within is = omega (arith, ints)

pub rate_fits : (g : Grid) (z : ℤ) → IsRate g.rates z → FitsSigned w32 z
rate_fits g z q = omega (arith, ints, q.least, q.most, g.rates_within)

one_peak : (c : Content) (g : Grid) (due : SeriesAt) (left : List SeriesAt) (at at' : SeriesAt) (p q : Peak) (n m : Due) (x y : List ℕ)
    → (series_of c due).lags ≤ 1024 → IsPeakLine c g due at p left n → IsPeakLine c g due at' q left m
    → line_text (PeakLine at p) ++ x ≡ line_text (PeakLine at' q) ++ y → IsSame n m x y
one_peak c g due left at at' p q n m x y few a b e =
    let s = series_of c due in
    let places : place_text at ≡ place_text at' = ap place_text (a.at_is ∙ sym b.at_is) in
    let left_is = signed_decimal p.rate ++ 32 ∷ (sums_text p.re p.im ++ x) in
    let right_is = signed_decimal q.rate ++ 32 ∷ (sums_text q.re q.im ++ y) in
    let words : signed_decimal p.lag ++ 32 ∷ left_is ≡ signed_decimal q.lag ++ 32 ∷ right_is =
    append_cancel_left (place_text at') (signed_decimal p.lag ++ 32 ∷ left_is) (signed_decimal q.lag ++ 32 ∷ right_is)
    (ap (λ t. t ++ (signed_decimal p.lag ++ 32 ∷ left_is)) (sym places) ∙ sym (peak_parts at p x) ∙ e ∙ peak_parts at' q y) in
    let lag = signed_apart p.lag q.lag 32 left_is right_is (omega arith) (lag_fits s.lags a.number p.lag few a.point.within a.point.lag) (lag_fits s.lags b.number q.lag few b.point.within b.point.lag) words in
    let rate = signed_apart p.rate q.rate 32 (sums_text p.re p.im ++ x) (sums_text q.re q.im ++ y) (omega arith) (rate_fits g p.rate a.point.rate) (rate_fits g q.rate b.point.rate) lag.rest in
    let number : a.number ≡ b.number = omega (arith, ints, a.point.lag, b.point.lag, lag.number) in
    let re : p.re ≡ q.re = a.point.re ∙ ap₂ (re_at s g.divide) number rate.number ∙ sym b.point.re in
    let im : p.im ≡ q.im = a.point.im ∙ ap₂ (im_at s g.divide) number rate.number ∙ sym b.point.im in
    let sums : sums_text p.re p.im ≡ sums_text q.re q.im = ap₂ sums_text re im in
    record {
      next = a.next_is ∙ ap₂ (λ (k : ℕ) (r : ℤ). from_lag c.head.lags (record { grid = g; at = due; lag = k; rate = r }) 0 left) number rate.number ∙ sym b.next_is;
      rest = append_cancel_left (sums_text q.re q.im) x y (ap (λ t. t ++ x) (sym sums) ∙ rate.rest);
    }

one_lag : (c : Content) (k : Claim) (number : ℕ) (left : List SeriesAt) (l l' : ℤ) (a b : Mark) (n m : Due) (x y : List ℕ)
    → IsLagLine c k number l a left n → IsLagLine c k number l' b left m
    → line_text (LagLine l a) ++ x ≡ line_text (LagLine l' b) ++ y → IsSame n m x y
one_lag c k number left l l' a b n m x y p q e =
    let lags : signed_decimal l ≡ signed_decimal l' = ap signed_decimal (p.lag_is ∙ sym q.lag_is) in
    let words = append_cancel_left (codes "lag ") (signed_decimal l ++ (mark_text a ++ x)) (signed_decimal l' ++ (mark_text b ++ y)) (sym (lag_parts l a x) ∙ e ∙ lag_parts l' b y) in
    let marks = append_cancel_left (signed_decimal l') (mark_text a ++ x) (mark_text b ++ y) (ap (λ t. t ++ (mark_text a ++ x)) (sym lags) ∙ words) in
    record { next = p.next_is ∙ sym q.next_is; rest = one_mark a b x y marks }

-- every series of a content has this many lags
abbrev pub AreFew : Content → Type 0
AreFew c = (at : SeriesAt) → (series_of c at).lags ≤ 1024

one_line : (c : Content) (s n m : Due) (a b : Line) (x y : List ℕ) → AreFew c → IsLine c s a n → IsLine c s b m
    → line_text a ++ x ≡ line_text b ++ y → IsSame n m x y
one_line c AtGrid n m (GridLine g) (GridLine h) x y few p q e = one_grid c g h n m x y p q e
one_line c AtGrid n m (GridLine g) (PeakLine at p') x y few p q e = absurd q
one_line c AtGrid n m (GridLine g) (LagLine l mark) x y few p q e = absurd q
one_line c AtGrid n m (PeakLine at p') b x y few p q e = absurd p
one_line c AtGrid n m (LagLine l mark) b x y few p q e = absurd p
one_line c (AtPeak g []) n m a b x y few p q e = absurd p
one_line c (AtPeak g (due ∷ left)) n m (PeakLine at p') (PeakLine at' q') x y few p q e = one_peak c g due left at at' p' q' n m x y (few due) p q e
one_line c (AtPeak g (due ∷ left)) n m (PeakLine at p') (GridLine h) x y few p q e = absurd q
one_line c (AtPeak g (due ∷ left)) n m (PeakLine at p') (LagLine l mark) x y few p q e = absurd q
one_line c (AtPeak g (due ∷ left)) n m (GridLine h) b x y few p q e = absurd p
one_line c (AtPeak g (due ∷ left)) n m (LagLine l mark) b x y few p q e = absurd p
one_line c (AtLag k number left) n m (LagLine l a) (LagLine l' b) x y few p q e = one_lag c k number left l l' a b n m x y p q e
one_line c (AtLag k number left) n m (LagLine l a) (GridLine h) x y few p q e = absurd q
one_line c (AtLag k number left) n m (LagLine l a) (PeakLine at p') x y few p q e = absurd q
one_line c (AtLag k number left) n m (GridLine h) b x y few p q e = absurd p
one_line c (AtLag k number left) n m (PeakLine at p') b x y few p q e = absurd p

-- ---- the longest front

-- what the lines behind a shorter front are
record Continues (c : Content) (mid end : Due) (x y : List ℕ) : Type 0 where
  pub tail : List Line
  pub are : AreLines c mid tail end
  pub is : y ≡ lines_text tail ++ x

continues : (c : Content) (s m e : Due) (whole front : List Line) (x y : List ℕ) → AreFew c → AreLines c s whole e → AreLines c s front m
    → lines_text whole ++ x ≡ lines_text front ++ y → IsStuck c e x → Continues c m e x y
unfolding AreLines
continues c s m e whole [] x y few p q h stuck = record { tail = whole; are = subst (λ (d : Due). AreLines c d whole e) q p; is = sym h }
continues c s m e [] (l ∷ front) x y few p (mid, one, more) h stuck =
    absurd (subst (λ (d : Due). IsStuck c d x) (sym p) stuck l mid (lines_text front ++ y) one (h ∙ append_assoc (line_text l) (lines_text front) y))
continues c s m e (w ∷ whole) (l ∷ front) x y few (mid, first, rest) (mid', one, more) h stuck =
    let same = one_line c s mid mid' w l (lines_text whole ++ x) (lines_text front ++ y) few first one
    (sym (append_assoc (line_text w) (lines_text whole) x) ∙ h ∙ append_assoc (line_text l) (lines_text front) y) in
    continues c mid' m e whole front x y few (subst (λ (d : Due). AreLines c d whole e) same.next rest) more same.rest stuck

ends : (c : Content) (g : Grid) (next : Due) (tail : List Line) (rest : List ℕ) → AreLines c (AtPeak g []) tail next → [] ≡ lines_text tail ++ rest
    → ((h : Grid) → next ≡ AtPeak h [] → rest ≢ []) → ⊥
unfolding AreLines
ends c g next [] rest are is goes_on = goes_on g (sym are) (sym is)
ends c g next (l ∷ tail) rest (mid, one, more) is goes_on = absurd one

pub wrong_at : (c : Content) (text rest : List ℕ) (at : ℕ) → AreFew c → IsStopped c AtGrid text rest → at + length rest ≡ length text → IsWrongAt c text at
wrong_at c text rest at few h place =
    let read = h.read in
    let long = ap length read.is ∙ length-append (lines_text read.lines) rest in
    record {
      front = record { next = h.next; rest = rest; read = read; at_is = omega arith };
      longest = λ more f.
          let k = continues c AtGrid f.next h.next read.lines f.read.lines rest f.rest few read.are f.read.are (sym read.is ∙ f.read.is) h.stuck in
          omega (arith, f.at_is, long, place, ap length f.read.is, length-append (lines_text f.read.lines) f.rest, ap length k.is, length-append (lines_text k.tail) rest);
      wrong = λ right.
          let k = continues c AtGrid (AtPeak right.grid []) h.next read.lines right.lines rest [] few read.are right.are
          (sym read.is ∙ right.is ∙ sym (append-nil (lines_text right.lines))) h.stuck in
          ends c right.grid h.next k.tail rest k.are k.is h.goes_on;
    }

pub right_of : (c : Content) (g : Grid) (text : List ℕ) → IsRead c AtGrid text (AtPeak g []) [] → IsRight c text
right_of c g text read = record { grid = g; lines = read.lines; are = read.are; is = read.is ∙ append-nil (lines_text read.lines) }
