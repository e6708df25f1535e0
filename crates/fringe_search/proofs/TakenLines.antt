-- Lines at the front of a text, part by part.
use Rattle.std.proofs.Common.{◌≡◌, ℕ, ◌≤◌, List, [], ◌∷◌, ◌++◌, ℤ, codes, decimal, sym, ap, ap₂, ◌∙◌, arith}
use Rattle.std.specs.Fmt.{signed_decimal}
use Rattle.std.proofs.lemmas.Int.{ints}
use Rattle.std.proofs.lemmas.List.{append_cancel_left}
use Rattle.corr_model.specs.Lags.{lag_of}
use Rattle.fringe_search.specs.declared.grid.Grid.{Grid}
use Rattle.fringe_search.specs.declared.grid.Peak.{Peak}
use Rattle.fringe_search.specs.declared.peak.Point.{Point}
use Rattle.fringe_search.specs.declared.places.SeriesAt.{SeriesAt}
use Rattle.fringe_search.specs.Layout.{Series}
use Rattle.fringe_search.specs.Sums.{re_at, im_at}
use Rattle.fringe_search.specs.Peaks.{IsPointOf}
use Rattle.fringe_search.specs.Best.{IsPoint}
use Rattle.fringe_search.specs.Numbers.{IsNumberThen, IsSignedThen}
use Rattle.fringe_search.specs.Certificates.{GridLine, PeakLine, line_text, place_text, sums_text}
use Rattle.fringe_search.specs.Written.{shown}
use Rattle.fringe_search.specs.Taken.{IsGridOf, HasPeakLine}
use Rattle.fringe_search.proofs.Strips.{behind_front}
use Rattle.fringe_search.proofs.Texts.{grid_parts, peak_parts}
use Rattle.fringe_search.proofs.Lines.{lag_fits, rate_fits}

pub number_rest : (m n stop : ℕ) (text a b : List ℕ) → IsNumberThen m stop text a → IsNumberThen n stop text b → n ≡ m → a ≡ b
number_rest m n stop text a b p q same =
    append_cancel_left (stop ∷ []) a b (append_cancel_left (decimal m) (stop ∷ a) (stop ∷ b) (sym p.is ∙ q.is ∙ ap (λ k. decimal k ++ stop ∷ b) same))

pub signed_rest : (y z : ℤ) (stop : ℕ) (text a b : List ℕ) → IsSignedThen y stop text a → IsSignedThen z stop text b → z ≡ y → a ≡ b
signed_rest y z stop text a b p q same =
    append_cancel_left (stop ∷ []) a b (append_cancel_left (signed_decimal y) (stop ∷ a) (stop ∷ b) (sym p.is ∙ q.is ∙ ap (λ k. signed_decimal k ++ stop ∷ b) same))

-- ---- the line of a grid

pub rates_in : (g : Grid) (text words rest : List ℕ) → text ≡ codes "grid " ++ words → text ≡ line_text (GridLine g) ++ rest
    → IsNumberThen g.rates 32 words (decimal g.divide ++ 10 ∷ rest)
rates_in g text words rest is e = record {
  within = omega (arith, g.rates_within);
  is = behind_front text (codes "grid ") words (decimal g.rates ++ 32 ∷ (decimal g.divide ++ 10 ∷ rest)) is (e ∙ grid_parts g rest);
}

pub divide_in : (g : Grid) (m : ℕ) (text words later rest : List ℕ) → text ≡ codes "grid " ++ words → text ≡ line_text (GridLine g) ++ rest
    → IsNumberThen m 32 words later → g.rates ≡ m → IsNumberThen g.divide 10 later rest
divide_in g m text words later rest is e taken same = record {
  within = omega (arith, g.divide_within);
  is = number_rest m g.rates 32 words later (decimal g.divide ++ 10 ∷ rest) taken (rates_in g text words rest is e) same;
}

pub grid_made : (g : Grid) (m n : ℕ) (text words later rest : List ℕ) → text ≡ codes "grid " ++ words → IsNumberThen m 32 words later
    → IsNumberThen n 10 later rest → IsGridOf m n g → text ≡ line_text (GridLine g) ++ rest
grid_made g m n text words later rest is a b h =
    is
    ∙ ap (λ t. codes "grid " ++ t) (a.is ∙ ap₂ (λ k t. decimal k ++ 32 ∷ t) (sym h.rates_is) (b.is ∙ ap (λ k. decimal k ++ 10 ∷ rest) (sym h.divide_is)))
    ∙ sym (grid_parts g rest)

-- ---- the line of a peak

pub lag_in : (s : Series) (g : Grid) (at : SeriesAt) (p : Peak) (n : ℕ) (text words rest : List ℕ) → s.lags ≤ 1024 → IsPointOf s g p n
    → text ≡ place_text at ++ words → text ≡ line_text (PeakLine at p) ++ rest
    → IsSignedThen p.lag 32 words (signed_decimal p.rate ++ 32 ∷ (sums_text p.re p.im ++ rest))
lag_in s g at p n text words rest few h is e = record {
  within = lag_fits s.lags n p.lag few h.within h.lag;
  is = behind_front text (place_text at) words (signed_decimal p.lag ++ 32 ∷ (signed_decimal p.rate ++ 32 ∷ (sums_text p.re p.im ++ rest))) is (e ∙ peak_parts at p rest);
}

pub rate_in : (s : Series) (g : Grid) (at : SeriesAt) (p : Peak) (n : ℕ) (z : ℤ) (text words later rest : List ℕ) → s.lags ≤ 1024
    → IsPointOf s g p n → text ≡ place_text at ++ words → text ≡ line_text (PeakLine at p) ++ rest → IsSignedThen z 32 words later
    → ((y : ℤ) (behind : List ℕ) → IsSignedThen y 32 words behind → y ≡ z) → IsSignedThen p.rate 32 later (sums_text p.re p.im ++ rest)
rate_in s g at p n z text words later rest few h is e taken one =
    let behind = signed_decimal p.rate ++ 32 ∷ (sums_text p.re p.im ++ rest) in
    let lag = lag_in s g at p n text words rest few h is e in
    record { within = rate_fits g p.rate h.rate; is = signed_rest z p.lag 32 words later behind taken lag (one p.lag behind lag) }

pub number_one : (lags n m : ℕ) (z y : ℤ) → z ≡ lag_of lags n → y ≡ lag_of lags m → z ≡ y → n ≡ m
number_one lags n m z y a b same = omega (arith, ints)

-- the sums of one lag and one rate are one
pub sums_one : (s : Series) (g : Grid) (p : Peak) (n : ℕ) (q : Point) → IsPointOf s g p n → IsPoint s g q → n ≡ q.lag → p.rate ≡ q.rate
    → sums_text p.re p.im ≡ sums_text q.sum.re q.sum.im
sums_one s g p n q a b l r =
    ap₂ sums_text (a.re ∙ ap₂ (re_at s g.divide) l r ∙ sym b.re) (a.im ∙ ap₂ (im_at s g.divide) l r ∙ sym b.im)

pub peak_made : (s : Series) (g : Grid) (at : SeriesAt) (q : Point) (y z : ℤ) (text words later sums rest : List ℕ) → text ≡ place_text at ++ words
    → IsSignedThen y 32 words later → IsSignedThen z 32 later sums → IsPoint s g q → y ≡ lag_of s.lags q.lag → q.rate ≡ z
    → sums ≡ sums_text q.sum.re q.sum.im ++ rest → HasPeakLine s g at text q rest
peak_made s g at q y z text words later sums rest is a b point l r e =
    let p = shown (lag_of s.lags q.lag) q in
    let inner : later ≡ signed_decimal q.rate ++ 32 ∷ (sums_text q.sum.re q.sum.im ++ rest) = b.is ∙ ap₂ (λ k t. signed_decimal k ++ 32 ∷ t) (sym r) e in
    let outer : words ≡ signed_decimal p.lag ++ 32 ∷ (signed_decimal p.rate ++ 32 ∷ (sums_text p.re p.im ++ rest)) =
    a.is ∙ ap₂ (λ k t. signed_decimal k ++ 32 ∷ t) l inner in
    record { point = point; is = is ∙ ap (λ t. place_text at ++ t) outer ∙ sym (peak_parts at p rest) }
