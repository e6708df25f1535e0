-- Sums over values that are held are those of the scan.
use Rattle.std.specs.Prelude.{◌&&◌, if◌then◌else◌}
use Rattle.std.proofs.Common.{◌≡◌, ◌≢◌, set, get_or-set_other, get_or-set_same, below_more, ℕ, zero, suc, ◌+◌, ◌-◌, ◌*◌, ◌/◌, ◌^◌, ◌<◌, ◌≤◌, ℤ, pos, neg_ℤ, ◌≤ℤ◌, ◌+ℤ◌, ◌-ℤ◌, w64, FitsSigned, rules, Bool, true, false, List, length, get_or, take, drop, Some, None, refl, subst, sym, ap, ◌∙◌, arith}
use Rattle.std.proofs.lemmas.Int.{ints}
use Rattle.std.proofs.Math.Dec.{leb}
use Rattle.std.proofs.lemmas.Bool.{le-leb}
use Rattle.std.proofs.lemmas.List.{get_or-take, get_or-drop}
use Rattle.corr_model.specs.declared.cell.Cell.{Cell}
use Rattle.corr_model.specs.declared.cell.Pair.{Pair}
use Rattle.corr_model.specs.Cell.{Value, Samples, no_cell, cell_plus, product_of, is_inside, product_at, sum_from, cell_in}
use Rattle.corr_model.specs.Lags.{lag_of}
use Rattle.corr_model.proofs.CellLemmas.{IsGrown, cell_in-split, cell_in-sum}
use Rattle.lag_kernel.specs.Held.{AddsEach, value_inside, HoldsValues, pairs_sum}

-- two sums of the same terms
pub sum_from-shift : (f g : ℕ → Cell) (at n : ℕ) → ((k : ℕ) → k < n → f k ≡ g (at + k)) → sum_from f 0 n ≡ sum_from g at n
sum_from-shift f g at zero each = refl
sum_from-shift f g at (suc n) each =
    let here : 0 + n ≡ n = omega arith in
    ap (λ c. cell_plus c (f (0 + n))) (sum_from-shift f g at n (λ k h. each k (omega (arith, h))))
    ∙ ap (λ k. cell_plus (sum_from g at n) (f k)) here
    ∙ ap (cell_plus (sum_from g at n)) (each n (omega arith))

-- a sample number inside a scan
pub inside-true : (k n : ℕ) → k < n → is_inside (pos k) n ≡ true
inside-true k n h = ap (λ (x : Bool). x && leb (suc k) n) (le-leb 0 k (omega arith)) ∙ le-leb (suc k) n (omega (arith, h))

-- the parts of two cells fit together
pub plus-fits : (x y : ℤ) (n m : ℕ) → neg_ℤ (pos (450 * n)) ≤ℤ x → x ≤ℤ pos (450 * n) → neg_ℤ (pos (450 * m)) ≤ℤ y → y ≤ℤ pos (450 * m)
    → n + m ≤ 2 ^ 36 → FitsSigned w64 (x +ℤ y)
plus-fits x y n m a b c d h = search rules

-- a product with a value that is there only inside the scan
pub product-inside : (u w : Value) (b : Bool) → (if b then product_of u w else no_cell) ≡ product_of u (if b then w else None)
product-inside u w true = refl
product-inside (Some a) w false = refl
product-inside None w false = refl

-- The pairs of a block's values from a number on are those of the scan at that number's lag.
pub block-cell : (z : Samples) (pair : Pair) (samples at lags i n : ℕ) (first second part : List Value)
    → HoldsValues z pair.a pair.x samples (pos at -ℤ pos 0) first
    → HoldsValues z pair.b pair.y samples (pos at -ℤ pos (lags / 2)) second
    → n ≡ length first
    → at + n ≤ samples
    → i + n ≤ length second
    → part ≡ take n (drop i second)
    → pairs_sum first part n ≡ cell_in z pair samples (lag_of lags i) at (at + n)
block-cell z pair samples at lags i n first second part holds_first holds_second same inside long is =
    let count : at + n - at ≡ n = omega arith in
    sum_from-shift (λ k. product_of (get_or first k None) (get_or part k None)) (product_at z pair samples (lag_of lags i)) at n each
    ∙ sym (cell_in-sum z pair samples (lag_of lags i) at (at + n) ∙ ap (sum_from (product_at z pair samples (lag_of lags i)) at) count)
  where
    each : (k : ℕ) → k < n
        → product_of (get_or first k None) (get_or part k None) ≡ product_at z pair samples (lag_of lags i) (at + k)
    each k h =
        let a_place : (pos at -ℤ pos 0) +ℤ pos k ≡ pos (at + k) = omega (arith, ints) in
        let a_in : is_inside (pos (at + k)) samples ≡ true = inside-true (at + k) samples (omega (arith, h, inside)) in
        let a_held : get_or first k None ≡ z pair.a pair.x (pos (at + k)) =
        holds_first k (omega (arith, h, same))
        ∙ ap (value_inside z pair.a pair.x samples) a_place
        ∙ ap (λ (b : Bool). if b then z pair.a pair.x (pos (at + k)) else None) a_in in
        let b_place : (pos at -ℤ pos (lags / 2)) +ℤ pos (i + k) ≡ pos (at + k) +ℤ lag_of lags i = omega (arith, ints) in
        let b_held : get_or part k None ≡ value_inside z pair.b pair.y samples (pos (at + k) +ℤ lag_of lags i) =
        ap (λ (l : List Value). get_or l k None) is
        ∙ get_or-take n (drop i second) k None h
        ∙ get_or-drop i second k None
        ∙ holds_second (i + k) (omega (arith, h, long))
        ∙ ap (value_inside z pair.b pair.y samples) b_place in
        ap (λ (u : Value). product_of u (get_or part k None)) a_held
        ∙ ap (product_of (z pair.a pair.x (pos (at + k)))) b_held
        ∙ sym (product-inside (z pair.a pair.x (pos (at + k))) (z pair.b pair.y (pos (at + k) +ℤ lag_of lags i)) (is_inside (pos (at + k) +ℤ lag_of lags i) samples))

-- what a block's pairs add to each cell
pub block-adds : (z : Samples) (pair : Pair) (samples at stop : ℕ) (first second : List Value) (old new : List Cell)
    → HoldsValues z pair.a pair.x samples (pos at -ℤ pos 0) first
    → HoldsValues z pair.b pair.y samples (pos at -ℤ pos (length old / 2)) second
    → at + length first ≡ stop
    → stop ≤ samples
    → length first + length old ≤ length second
    → AddsEach old new (λ k. pairs_sum first (take (length first) (drop k second)) (length first))
    → AddsEach old new (λ i. cell_in z pair samples (lag_of (length old) i) at stop)
block-adds z pair samples at stop first second old new holds_first holds_second end inside long adds = λ k d h.
    adds k d h
    ∙ ap (cell_plus (get_or old k d))
    (block-cell z pair samples at (length old) k (length first) first second (take (length first) (drop k second)) holds_first holds_second refl
    (omega (arith, end, inside)) (omega (arith, h, long)) refl
    ∙ ap (cell_in z pair samples (lag_of (length old) k) at) end)

-- a cell so far and what a block adds to it
cell-more : (z : Samples) (pair : Pair) (samples : ℕ) (lag : ℤ) (from at stop : ℕ) (cell next : Cell)
    → from ≤ at → at ≤ stop
    → cell ≡ cell_in z pair samples lag from at
    → next ≡ cell_plus cell (cell_in z pair samples lag at stop)
    → next ≡ cell_in z pair samples lag from stop
cell-more z pair samples lag from at stop cell next h k so_far more =
    more ∙ ap (λ c. cell_plus c (cell_in z pair samples lag at stop)) so_far ∙ sym (cell_in-split z pair samples lag from at stop h k)

-- the same of all cells
pub cells-more : (z : Samples) (pair : Pair) (samples from at stop lags : ℕ) (out next : List Cell)
    → from ≤ at → at ≤ stop → length out ≡ lags
    → ((k : ℕ) (d : Cell) → k < lags → get_or out k d ≡ cell_in z pair samples (lag_of lags k) from at)
    → AddsEach out next (λ k. cell_in z pair samples (lag_of (length out) k) at stop)
    → (k : ℕ) (d : Cell) → k < lags → get_or next k d ≡ cell_in z pair samples (lag_of lags k) from stop
cells-more z pair samples from at stop lags out next h j same so_far adds k d lt =
    cell-more z pair samples (lag_of lags k) from at stop (get_or out k d) (get_or next k d) h j (so_far k d lt)
    (subst (λ n. get_or next k d ≡ cell_plus (get_or out k d) (cell_in z pair samples (lag_of n k) at stop)) same (adds k d (omega (arith, same, lt))))

pub grown-more : (from at stop lags : ℕ) (out next : List Cell)
    → from ≤ at → at ≤ stop → length out ≡ lags
    → ((k : ℕ) (d : Cell) → k < length out → IsGrown (get_or next k d) (at - from + (stop - at)))
    → (k : ℕ) (d : Cell) → k < lags → IsGrown (get_or next k d) (stop - from)
grown-more from at stop lags out next h j same grown k d lt =
    let count : at - from + (stop - at) ≡ stop - from = omega arith in
    subst (λ n. IsGrown (get_or next k d) n) count (grown k d (omega (arith, same, lt)))

-- one value more of a list that is filled
pub put_more : {X : Type 0} (Q : ℕ → X → Type 0) (xs : List X) (k : ℕ) (v d : X) → k < length xs
    → ((j : ℕ) → j < k → Q j (get_or xs j d))
    → Q k v
    → (j : ℕ) → j < k + 1 → Q j (get_or (set xs k v) j d)
put_more Q xs k v d within below here =
    below_more (λ j. Q j (get_or (set xs k v) j d)) k
    (λ j h. let ne : j ≢ k = omega arith in rw get_or-set_other (below j h))
    (rw get_or-set_same here)
