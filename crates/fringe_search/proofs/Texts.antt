-- The texts of lines, part by part, and numbers that end in one way.
use Rattle.std.proofs.Common.{◌≡◌, ℕ, ◌<◌, ◌≤◌, ◌^◌, List, [], ◌∷◌, ◌++◌, ℤ, FitsSigned, codes, decimal, refl, sym, ap, subst, ◌∙◌, arith, append_assoc}
use Rattle.std.specs.Fmt.{signed_decimal}
use Rattle.std.specs.Int.{w32}
use Rattle.std.proofs.lemmas.Fmt.{decimal_injective, signed_decimal_injective}
use Rattle.std.proofs.lemmas.List.{append_cancel_left}
use denote.Struct.Props.{props}
use Rattle.fringe_search.specs.declared.grid.Grid.{Grid}
use Rattle.fringe_search.specs.declared.grid.Peak.{Peak}
use Rattle.fringe_search.specs.declared.claim.Mark.{Mark}
use Rattle.fringe_search.specs.declared.places.SeriesAt.{SeriesAt}
use Rattle.fringe_search.specs.Certificates.{GridLine, PeakLine, LagLine, line_text, mark_text, place_text, peak_text, sums_text}
use Rattle.fringe_search.proofs.Spaced.{word_of_number, word_of_signed}

pub grid_parts : (g : Grid) (x : List ℕ) → line_text (GridLine g) ++ x ≡ codes "grid " ++ (decimal g.rates ++ 32 ∷ (decimal g.divide ++ 10 ∷ x))
grid_parts g x =
    ap (λ t. codes "grid " ++ t)
    (append_assoc (decimal g.rates) (32 ∷ (decimal g.divide ++ 10 ∷ [])) x
    ∙ ap (λ t. decimal g.rates ++ 32 ∷ t) (append_assoc (decimal g.divide) (10 ∷ []) x))

pub sums_parts : (re im : ℤ) (x : List ℕ) → sums_text re im ++ x ≡ signed_decimal re ++ 32 ∷ (signed_decimal im ++ 10 ∷ x)
sums_parts re im x =
    append_assoc (signed_decimal re) (32 ∷ (signed_decimal im ++ 10 ∷ [])) x
    ∙ ap (λ t. signed_decimal re ++ 32 ∷ t) (append_assoc (signed_decimal im) (10 ∷ []) x)

pub peak_parts : (at : SeriesAt) (p : Peak) (x : List ℕ)
    → line_text (PeakLine at p) ++ x ≡ place_text at ++ (signed_decimal p.lag ++ 32 ∷ (signed_decimal p.rate ++ 32 ∷ (sums_text p.re p.im ++ x)))
peak_parts at p x =
    append_assoc (place_text at) (peak_text p) x
    ∙ ap (λ t. place_text at ++ t)
    (append_assoc (signed_decimal p.lag) (32 ∷ (signed_decimal p.rate ++ 32 ∷ sums_text p.re p.im)) x
    ∙ ap (λ t. signed_decimal p.lag ++ 32 ∷ t) (append_assoc (signed_decimal p.rate) (32 ∷ sums_text p.re p.im) x))

pub lag_parts : (lag : ℤ) (mark : Mark) (x : List ℕ) → line_text (LagLine lag mark) ++ x ≡ codes "lag " ++ (signed_decimal lag ++ (mark_text mark ++ x))
lag_parts lag mark x = ap (λ t. codes "lag " ++ t) (append_assoc (signed_decimal lag) (mark_text mark) x)

-- numbers before one byte
pub record IsOneNumber {A : Type 0} (m n : A) (x y : List ℕ) : Type 0 where
  pub number : m ≡ n
  pub rest : x ≡ y

pub numbers_apart : (m n stop : ℕ) (x y : List ℕ) → stop < 48 → m < 2 ^ 32 → n < 2 ^ 32 → decimal m ++ stop ∷ x ≡ decimal n ++ stop ∷ y
    → IsOneNumber m n x y
numbers_apart m n stop x y low a b e =
    let words = sym (word_of_number m stop (decimal m ++ stop ∷ x) x low a refl) ∙ word_of_number n stop (decimal m ++ stop ∷ x) y low b e in
    let same : m ≡ n = decimal_injective m n (omega arith) (omega arith) words in
    let front : decimal n ++ stop ∷ x ≡ decimal n ++ stop ∷ y = subst (λ k. decimal k ++ stop ∷ x ≡ decimal n ++ stop ∷ y) same e in
    record { number = same; rest = append_cancel_left (stop ∷ []) x y (append_cancel_left (decimal n) (stop ∷ x) (stop ∷ y) front) }

pub signed_apart : (y z : ℤ) (stop : ℕ) (a b : List ℕ) → stop < 45 → FitsSigned w32 y → FitsSigned w32 z
    → signed_decimal y ++ stop ∷ a ≡ signed_decimal z ++ stop ∷ b → IsOneNumber y z a b
signed_apart y z stop a b low p q e =
    let words = sym (word_of_signed y stop (signed_decimal y ++ stop ∷ a) a low p refl) ∙ word_of_signed z stop (signed_decimal y ++ stop ∷ a) b low q e in
    let same : y ≡ z = signed_decimal_injective y z (omega (arith, p.sfits)) (omega (arith, q.sfits)) words in
    let front : signed_decimal z ++ stop ∷ a ≡ signed_decimal z ++ stop ∷ b = subst (λ k. signed_decimal k ++ stop ∷ a ≡ signed_decimal z ++ stop ∷ b) same e in
    record { number = same; rest = append_cancel_left (stop ∷ []) a b (append_cancel_left (signed_decimal z) (stop ∷ a) (stop ∷ b) front) }

-- grids of one pair of numbers
grid_of : (r d : ℕ) → r ≤ 4096 → 0 < d → d ≤ 65536 → Grid
grid_of r d a b c = record { rates = r; divide = d; rates_within = a; divide_some = b; divide_within = c }

le-prop : (m n : ℕ) → IsProp (m ≤ n)
le-prop m n = hlevel props

lt-prop : (m n : ℕ) → IsProp (m < n)
lt-prop m n = hlevel props

same_facts : (r d : ℕ) (a a' : r ≤ 4096) (b b' : 0 < d) (c c' : d ≤ 65536) → grid_of r d a b c ≡ grid_of r d a' b' c'
same_facts r d a a' b b' c c' =
    ap (λ x. grid_of r d x b c) (le-prop r 4096 a a') ∙ ap (λ x. grid_of r d a' x c) (lt-prop 0 d b b') ∙ ap (λ x. grid_of r d a' b' x) (le-prop d 65536 c c')

pub same_grid : (g h : Grid) → g.rates ≡ h.rates → g.divide ≡ h.divide → g ≡ h
unfolding grid_of
same_grid g h p q =
    subst (λ (r : ℕ). (a : r ≤ 4096) → g ≡ grid_of r h.divide a h.divide_some h.divide_within) p
    (subst (λ (d : ℕ). (b : 0 < d) (c : d ≤ 65536) (a : g.rates ≤ 4096) → g ≡ grid_of g.rates d a b c) q
    (λ b c a. same_facts g.rates g.divide g.rates_within a g.divide_some b g.divide_within c)
    h.divide_some h.divide_within)
    h.rates_within
