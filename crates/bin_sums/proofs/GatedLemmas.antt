-- The cell of a bin is that of values from which the first station's samples of other bins are gone: what is known of cells holds of it.
use Rattle.std.proofs.Common.{◌≡◌, ◌∙◌, sym, ap, refl, ℕ, zero, suc, ◌+◌, ◌-◌, ◌*◌, ◌^◌, ◌<◌, ◌≤◌, ◌==◌, Bool, true, false, cond, ℤ, pos, ◌+ℤ◌, ◌≤ℤ◌, neg_ℤ, w64, None, IfSome, unsigned_abs, arith}
use Rattle.std.specs.Prelude.{if◌then◌else◌}
use Rattle.std.specs.Int.{int_wrapping_add}
use Rattle.std.proofs.lemmas.Int.{ints, wrapping_add_is, int_wrap_fits}
use Rattle.corr_model.specs.declared.cell.Cell.{Cell}
use Rattle.corr_model.specs.declared.cell.Pair.{Pair}
use Rattle.corr_model.specs.Cell.{Value, Samples, AreSmall, no_cell, cell_plus, is_inside, product_of, product_at, cell_in}
use Rattle.corr_model.proofs.CellLemmas.{same_cell, sum_from-same, cell_in-sum, cell_in-none, cell_in-split, cell_in-values, IsGrown}
use Rattle.job_epochs.specs.Added.{plus_wrapped}
use Rattle.job_epochs.proofs.RangeCells.{AllSmall, part-fits, cell_in-IsGrown}
use Rattle.pulsar_bins.specs.Cells.{of_bin, bin_cell_in}

-- ---- the values of a pair, by bin

-- the value at a sample of a bin
abbrev pub at_bin : (ℕ → ℕ) → ℕ → ℤ → Value → Value
at_bin bins b n value = cond (bins (unsigned_abs n) == b) value None

-- the first station has the values of the pair's first at the samples of a bin, and the second those of the pair's second
abbrev pub gated : (ℕ → ℕ) → ℕ → Samples → Pair → Samples
gated bins b z pair zero chan n = at_bin bins b n (z pair.a pair.x n)
gated bins b z pair (suc k) chan n = z pair.b pair.y n

abbrev pub gated_pair : Pair
gated_pair = record { a = 0; x = 0; b = 1; y = 0 }

product-gated : (bins : ℕ → ℕ) (b : ℕ) (z : Samples) (pair : Pair) (samples : ℕ) (lag : ℤ) (n : ℕ)
    → of_bin bins b (product_at z pair samples lag) n ≡ product_at (gated bins b z pair) gated_pair samples lag n
product-gated bins b z pair samples lag n = by (bins n == b) (is_inside (pos n +ℤ lag) samples)
  where
    by : (here inside : Bool)
        → (if here then (if inside then product_of (z pair.a pair.x (pos n)) (z pair.b pair.y (pos n +ℤ lag)) else no_cell) else no_cell)
        ≡ (if inside then product_of (cond here (z pair.a pair.x (pos n)) None) (z pair.b pair.y (pos n +ℤ lag)) else no_cell)
    by true inside = refl
    by false true = refl
    by false false = refl

bin_cell_in-gated : (bins : ℕ → ℕ) (b : ℕ) (z : Samples) (pair : Pair) (samples : ℕ) (lag : ℤ) (from to : ℕ)
    → bin_cell_in bins b z pair samples lag from to ≡ cell_in (gated bins b z pair) gated_pair samples lag from to
unfolding bin_cell_in
bin_cell_in-gated bins b z pair samples lag from to =
    sum_from-same (of_bin bins b (product_at z pair samples lag)) (product_at (gated bins b z pair) gated_pair samples lag) from (to - from)
    (λ k h. product-gated bins b z pair samples lag (from + k))
    ∙ sym (cell_in-sum (gated bins b z pair) gated_pair samples lag from to)

-- ---- what depends on the values that are there

pub bin_cell_in-values : (bins : ℕ → ℕ) (b : ℕ) (z y : Samples) (p q : Pair) (samples : ℕ) (lag : ℤ) (from to : ℕ)
    → ((n : ℕ) → from ≤ n → n < to → z p.a p.x (pos n) ≡ y q.a q.x (pos n))
    → ((n : ℕ) → from ≤ n → n < to → is_inside (pos n +ℤ lag) samples ≡ true → z p.b p.y (pos n +ℤ lag) ≡ y q.b q.y (pos n +ℤ lag))
    → bin_cell_in bins b z p samples lag from to ≡ bin_cell_in bins b y q samples lag from to
bin_cell_in-values bins b z y p q samples lag from to first second =
    bin_cell_in-gated bins b z p samples lag from to
    ∙ cell_in-values (gated bins b z p) (gated bins b y q) gated_pair gated_pair samples lag from to
    (λ n begun under. ap (at_bin bins b (pos n)) (first n begun under)) second
    ∙ sym (bin_cell_in-gated bins b y q samples lag from to)

pub bin_cell_in-none : (bins : ℕ → ℕ) (b : ℕ) (z : Samples) (pair : Pair) (samples : ℕ) (lag : ℤ) (from : ℕ)
    → bin_cell_in bins b z pair samples lag from from ≡ no_cell
bin_cell_in-none bins b z pair samples lag from =
    bin_cell_in-gated bins b z pair samples lag from from ∙ cell_in-none (gated bins b z pair) gated_pair samples lag from

-- ---- the sum of two ranges

at_bin-small : (here : Bool) (value : Value) → IfSome value AreSmall → IfSome (cond here value None) AreSmall
at_bin-small true value small = small
at_bin-small false value small = tt

gated-small : (bins : ℕ → ℕ) (b : ℕ) (z : Samples) (pair : Pair) → AllSmall z → AllSmall (gated bins b z pair)
gated-small bins b z pair small zero chan n = at_bin-small (bins (unsigned_abs n) == b) (z pair.a pair.x n) (small pair.a pair.x n)
gated-small bins b z pair small (suc k) chan n = small pair.b pair.y n

sum-is : (x y : ℤ) (n m : ℕ) → neg_ℤ (pos (450 * n)) ≤ℤ x → x ≤ℤ pos (450 * n) → neg_ℤ (pos (450 * m)) ≤ℤ y → y ≤ℤ pos (450 * m)
    → n + m ≤ 2 ^ 40 → int_wrapping_add w64 x y ≡ x +ℤ y
sum-is x y n m x_low x_high y_low y_high few =
    wrapping_add_is w64 x y (part-fits x n x_low x_high (omega arith)) (part-fits y m y_low y_high (omega arith))
    ∙ int_wrap_fits w64 (x +ℤ y) (part-fits (x +ℤ y) (n + m) (omega (arith, ints)) (omega (arith, ints)) few)

-- the sum of two cells of few pairs does not wrap
plus_wrapped-is : (c d : Cell) (n m : ℕ) → IsGrown c n → IsGrown d m → n + m ≤ 2 ^ 40 → plus_wrapped c d ≡ cell_plus c d
plus_wrapped-is c d n m first second few =
    same_cell _ _ _ _ _ _
    (sum-is c.re d.re n m first.re_low first.re_high second.re_low second.re_high few)
    (sum-is c.im d.im n m first.im_low first.im_high second.im_low second.im_high few)
    (omega (arith, first.count, second.count))

pub bin_cell_in-wrapped : (bins : ℕ → ℕ) (b : ℕ) (z : Samples) (pair : Pair) (samples : ℕ) (lag : ℤ) (from middle to : ℕ) → AllSmall z
    → from ≤ middle → middle ≤ to → to ≤ 2 ^ 40
    → plus_wrapped (bin_cell_in bins b z pair samples lag from middle) (bin_cell_in bins b z pair samples lag middle to)
    ≡ bin_cell_in bins b z pair samples lag from to
bin_cell_in-wrapped bins b z pair samples lag from middle to small h k few =
    let y : Samples = gated bins b z pair in
    let small_y : AllSmall y = gated-small bins b z pair small in
    ap (λ (c : Cell). plus_wrapped c (bin_cell_in bins b z pair samples lag middle to)) (bin_cell_in-gated bins b z pair samples lag from middle)
    ∙ ap (plus_wrapped (cell_in y gated_pair samples lag from middle)) (bin_cell_in-gated bins b z pair samples lag middle to)
    ∙ plus_wrapped-is (cell_in y gated_pair samples lag from middle) (cell_in y gated_pair samples lag middle to) (middle - from) (to - middle)
    (cell_in-IsGrown y gated_pair samples lag from middle small_y) (cell_in-IsGrown y gated_pair samples lag middle to small_y) (omega arith)
    ∙ sym (cell_in-split y gated_pair samples lag from middle to h k)
    ∙ sym (bin_cell_in-gated bins b z pair samples lag from to)
