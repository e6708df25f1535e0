-- Cells add up in any grouping, and so a cell over a range is the sum of the cells over its parts.
use Rattle.std.specs.Prelude.{if◌then◌else◌, IfSome}
use Rattle.std.proofs.Common.{◌≡◌, ℕ, zero, suc, ◌+◌, ◌-◌, ◌*◌, ◌≤◌, ◌<◌, Bool, true, false, ℤ, pos, negsuc, ◌+ℤ◌, ◌*ℤ◌, ◌≤ℤ◌, neg_ℤ, ◌-ℤ◌, FitsSigned, w8, w64, to_z, of_z, Some, None, refl, sym, ap, ◌∙◌, arith, add-zero, add-suc}
use Rattle.std.proofs.lemmas.Int.{ints, to_z-of_z, unsigned_abs-mul}
use Rattle.std.proofs.lemmas.Nat.{mul-le}
use Rattle.std.specs.Int.RustNames.{unsigned_abs}
use Rattle.corr_model.specs.declared.cell.Cell.{Cell}
use Rattle.corr_model.specs.declared.cell.Pair.{Pair}
use Rattle.corr_model.specs.Cell.{Value, Samples, no_cell, cell_plus, is_inside, product_of, sum_from, product_at, cell_in, IsSmall, AreSmall, IsProduct}

pub same_cell : (re re' im im' : ℤ) (n n' : ℕ) → re ≡ re' → im ≡ im' → n ≡ n'
    → ◌≡◌ {A = Cell} (record { re = re; im = im; count = n }) (record { re = re'; im = im'; count = n' })
same_cell re re' im im' n n' p q r = cc

pub cell_plus-assoc : (c d e : Cell) → cell_plus (cell_plus c d) e ≡ cell_plus c (cell_plus d e)
cell_plus-assoc c d e =
    same_cell _ _ _ _ _ _ (omega (arith, ints)) (omega (arith, ints)) (omega arith)

pub cell_plus-none : (c : Cell) → cell_plus c no_cell ≡ c
cell_plus-none c =
    same_cell _ _ _ _ _ _ (omega (arith, ints)) (omega (arith, ints)) (omega arith)

-- the sum over a + b numbers, split after a
pub sum_from-split : (f : ℕ → Cell) (from a b : ℕ)
    → sum_from f from (a + b) ≡ cell_plus (sum_from f from a) (sum_from f (from + a) b)
sum_from-split f from a zero = rw (add-zero a) (sym (cell_plus-none (sum_from f from a)))
sum_from-split f from a (suc b) =
    let one : sum_from f from (a + suc b) ≡ cell_plus (sum_from f from (a + b)) (f (from + (a + b))) = rw add-suc refl in
    let place : from + (a + b) ≡ from + a + b = omega arith in
    one
    ∙ ap (λ c. cell_plus c (f (from + (a + b)))) (sum_from-split f from a b)
    ∙ ap (λ n. cell_plus (cell_plus (sum_from f from a) (sum_from f (from + a) b)) (f n)) place
    ∙ cell_plus-assoc (sum_from f from a) (sum_from f (from + a) b) (f (from + a + b))

-- the cell of a range is the sum of the cells of its two parts
pub cell_in-split : (z : Samples) (pair : Pair) (samples : ℕ) (lag : ℤ) (from middle to : ℕ)
    → from ≤ middle → middle ≤ to
    → cell_in z pair samples lag from to
    ≡ cell_plus (cell_in z pair samples lag from middle) (cell_in z pair samples lag middle to)
unfolding cell_in
cell_in-split z pair samples lag from middle to h k =
    let f : ℕ → Cell = product_at z pair samples lag in
    let parts : to - from ≡ (middle - from) + (to - middle) = omega arith in
    let place : from + (middle - from) ≡ middle = omega arith in
    ap (sum_from f from) parts
    ∙ sum_from-split f from (middle - from) (to - middle)
    ∙ ap (λ n. cell_plus (sum_from f from (middle - from)) (sum_from f n (to - middle))) place

-- the cell of a range as a sum
pub cell_in-sum : (z : Samples) (pair : Pair) (samples : ℕ) (lag : ℤ) (from to : ℕ)
    → cell_in z pair samples lag from to ≡ sum_from (product_at z pair samples lag) from (to - from)
unfolding cell_in
cell_in-sum z pair samples lag from to = refl

-- two sums of the same terms
pub sum_from-same : (f g : ℕ → Cell) (from count : ℕ)
    → ((k : ℕ) → k < count → f (from + k) ≡ g (from + k))
    → sum_from f from count ≡ sum_from g from count
sum_from-same f g from zero each = refl
sum_from-same f g from (suc n) each =
    ap (λ c. cell_plus c (f (from + n))) (sum_from-same f g from n (λ k h. each k (omega (arith, h))))
    ∙ ap (cell_plus (sum_from g from n)) (each n (omega arith))

-- what a sample adds, where it has the same values
product_at-same : (z y : Samples) (p q : Pair) (samples : ℕ) (lag : ℤ) (n : ℕ)
    → z p.a p.x (pos n) ≡ y q.a q.x (pos n)
    → (is_inside (pos n +ℤ lag) samples ≡ true → z p.b p.y (pos n +ℤ lag) ≡ y q.b q.y (pos n +ℤ lag))
    → product_at z p samples lag n ≡ product_at y q samples lag n
product_at-same z y p q samples lag n first second = by (is_inside (pos n +ℤ lag) samples) second
  where
    by : (inside : Bool) → (inside ≡ true → z p.b p.y (pos n +ℤ lag) ≡ y q.b q.y (pos n +ℤ lag))
        → (if inside then product_of (z p.a p.x (pos n)) (z p.b p.y (pos n +ℤ lag)) else no_cell)
        ≡ (if inside then product_of (y q.a q.x (pos n)) (y q.b q.y (pos n +ℤ lag)) else no_cell)
    by true there =
        ap (λ v. product_of v (z p.b p.y (pos n +ℤ lag))) first ∙ ap (product_of (y q.a q.x (pos n))) (there refl)
    by false there = refl

-- A cell depends on the first station's values in its range, and on the second's in the range shifted by the lag as far as
-- that is inside the scan; so neither a window that holds these nor another numbering of the stations changes it.
pub cell_in-values : (z y : Samples) (p q : Pair) (samples : ℕ) (lag : ℤ) (from to : ℕ)
    → ((n : ℕ) → from ≤ n → n < to → z p.a p.x (pos n) ≡ y q.a q.x (pos n))
    → ((n : ℕ) → from ≤ n → n < to → is_inside (pos n +ℤ lag) samples ≡ true
    → z p.b p.y (pos n +ℤ lag) ≡ y q.b q.y (pos n +ℤ lag))
    → cell_in z p samples lag from to ≡ cell_in y q samples lag from to
cell_in-values z y p q samples lag from to first second =
    cell_in-sum z p samples lag from to
    ∙ sum_from-same (product_at z p samples lag) (product_at y q samples lag) from (to - from)
    (λ k h. product_at-same z y p q samples lag (from + k)
    (first (from + k) (omega arith) (omega (arith, h)))
    (second (from + k) (omega arith) (omega (arith, h))))
    ∙ sym (cell_in-sum y q samples lag from to)

pub cell_in-none : (z : Samples) (pair : Pair) (samples : ℕ) (lag : ℤ) (from : ℕ)
    → cell_in z pair samples lag from from ≡ no_cell
unfolding cell_in
cell_in-none z pair samples lag from =
    let f : ℕ → Cell = product_at z pair samples lag in
    let parts : from - from ≡ 0 = omega arith in
    ap (sum_from f from) parts

-- one sample number more
pub cell_in-more : (z : Samples) (pair : Pair) (samples : ℕ) (lag : ℤ) (from n : ℕ) → from ≤ n
    → cell_in z pair samples lag from (n + 1)
    ≡ cell_plus (cell_in z pair samples lag from n) (product_at z pair samples lag n)
unfolding cell_in
cell_in-more z pair samples lag from n h =
    let f : ℕ → Cell = product_at z pair samples lag in
    let parts : n + 1 - from ≡ suc (n - from) = omega arith in
    let place : from + (n - from) ≡ n = omega arith in
    ap (sum_from f from) parts ∙ ap (λ k. cell_plus (sum_from f from (n - from)) (f k)) place

-- the same, where what was added is named
pub cell_in-step : (z : Samples) (pair : Pair) (samples : ℕ) (lag : ℤ) (from n : ℕ) (cell product next : Cell)
    → from ≤ n
    → cell ≡ cell_in z pair samples lag from n
    → product ≡ product_at z pair samples lag n
    → next ≡ cell_plus cell product
    → next ≡ cell_in z pair samples lag from (n + 1)
cell_in-step z pair samples lag from n cell product next h sum one joined =
    joined
    ∙ ap (cell_plus cell) one
    ∙ ap (λ c. cell_plus c (product_at z pair samples lag n)) sum
    ∙ sym (cell_in-more z pair samples lag from n h)

-- a product, as it is computed of two passed bytes
pub passed_product : (x y p : ℤ) → FitsSigned w8 x → FitsSigned w8 y
    → p ≡ to_z w8 (of_z w8 x) *ℤ to_z w8 (of_z w8 y) → p ≡ x *ℤ y
passed_product x y p h k e = simp to_z-of_z at e

-- the product of two small components
abs-small : (x : ℤ) → IsSmall x → unsigned_abs x ≤ 15
abs-small (pos n) h = omega (arith, ints)
abs-small (negsuc n) h = omega (arith, ints)

pub within_abs : (x : ℤ) (n : ℕ) → unsigned_abs x ≤ n → (neg_ℤ (pos n) ≤ℤ x) × (x ≤ℤ pos n)
within_abs (pos m) n h = (omega (arith, ints), omega (arith, ints))
within_abs (negsuc m) n h = (omega (arith, ints), omega (arith, ints))

pub product-small : (x y : ℤ) → IsSmall x → IsSmall y
    → (neg_ℤ (pos 225) ≤ℤ (x *ℤ y)) × ((x *ℤ y) ≤ℤ pos 225)
product-small x y h k =
    let small : unsigned_abs x * unsigned_abs y ≤ 225 = mul-le (unsigned_abs x) (unsigned_abs y) 15 15 (abs-small x h) (abs-small y k) in
    let size : unsigned_abs (x *ℤ y) ≤ 225 = omega (arith, unsigned_abs-mul x y) in
    within_abs (x *ℤ y) 225 size

-- a product of two small components, as it is passed on with another
abbrev pub IsPart : ℤ → Type 0
IsPart p = (neg_ℤ (pos 225) ≤ℤ p) × (p ≤ℤ pos 225)

pub passed_small : (x : ℤ) → IsSmall x → IsSmall (to_z w8 (of_z w8 x))
passed_small x h = (omega (arith, ints), omega (arith, ints))

passed_part : (p : ℤ) → IsPart p → to_z w64 (of_z w64 p) ≡ p
passed_part p h = omega (arith, ints)

sum-fits : (p q : ℤ) → IsPart p → IsPart q → FitsSigned w64 (p +ℤ q)
sum-fits p q h k = omega (arith, ints)

difference-fits : (p q : ℤ) → IsPart p → IsPart q → FitsSigned w64 (p -ℤ q)
difference-fits p q h k = omega (arith, ints)

pub passed_sum-fits : (p q : ℤ) → IsPart p → IsPart q → FitsSigned w64 (to_z w64 (of_z w64 p) +ℤ to_z w64 (of_z w64 q))
passed_sum-fits p q h k = rw (passed_part p h, passed_part q k) (sum-fits p q h k)

pub passed_difference-fits : (p q : ℤ) → IsPart p → IsPart q → FitsSigned w64 (to_z w64 (of_z w64 p) -ℤ to_z w64 (of_z w64 q))
passed_difference-fits p q h k = rw (passed_part p h, passed_part q k) (difference-fits p q h k)

pub passed_sum : (p q : ℤ) → IsPart p → IsPart q → to_z w64 (of_z w64 (to_z w64 (of_z w64 p) +ℤ to_z w64 (of_z w64 q))) ≡ p +ℤ q
passed_sum p q h k = to_z-of_z w64 _ (passed_sum-fits p q h k) ∙ (λ i. passed_part p h i +ℤ passed_part q k i)

pub passed_difference : (p q : ℤ) → IsPart p → IsPart q → to_z w64 (of_z w64 (to_z w64 (of_z w64 p) -ℤ to_z w64 (of_z w64 q))) ≡ p -ℤ q
passed_difference p q h k = to_z-of_z w64 _ (passed_difference-fits p q h k) ∙ (λ i. passed_part p h i -ℤ passed_part q k i)

pub no_cell-small : IsProduct no_cell
no_cell-small = record {
  re_low = omega (arith, ints);
  re_high = omega (arith, ints);
  im_low = omega (arith, ints);
  im_high = omega (arith, ints);
  count = omega arith;
}

-- the product of two small values
pub product_of-small : (v w : Value) → IfSome v AreSmall → IfSome w AreSmall → IsProduct (product_of v w)
product_of-small (Some a) (Some b) small_a small_b =
    let rr = product-small a.0 b.0 small_a.0 small_b.0 in
    let ii = product-small a.1 b.1 small_a.1 small_b.1 in
    let ir = product-small a.1 b.0 small_a.1 small_b.0 in
    let ri = product-small a.0 b.1 small_a.0 small_b.1 in
    record {
      re_low = omega (arith, ints, rr.0, ii.0);
      re_high = omega (arith, ints, rr.1, ii.1);
      im_low = omega (arith, ints, ir.0, ri.1);
      im_high = omega (arith, ints, ir.1, ri.0);
      count = omega arith;
    }
product_of-small (Some a) None small_a small_b = no_cell-small
product_of-small None w small_a small_b = no_cell-small

-- what so many pairs can add
pub record IsGrown (c : Cell) (pairs : ℕ) : Type 0 where
  pub re_low : neg_ℤ (pos (450 * pairs)) ≤ℤ c.re
  pub re_high : c.re ≤ℤ pos (450 * pairs)
  pub im_low : neg_ℤ (pos (450 * pairs)) ≤ℤ c.im
  pub im_high : c.im ≤ℤ pos (450 * pairs)
  pub count : c.count ≤ pairs

pub IsGrown-none : (pairs : ℕ) → IsGrown no_cell pairs
IsGrown-none pairs = record {
  re_low = omega (arith, ints);
  re_high = omega (arith, ints);
  im_low = omega (arith, ints);
  im_high = omega (arith, ints);
  count = omega arith;
}

-- one pair more
pub IsGrown-more : (c d : Cell) (n m : ℕ) → IsGrown c n → IsProduct d → m ≡ n + 1 → IsGrown (cell_plus c d) m
IsGrown-more c d n m grown small one = record {
  re_low = omega (arith, ints, grown.re_low, small.re_low);
  re_high = omega (arith, ints, grown.re_high, small.re_high);
  im_low = omega (arith, ints, grown.im_low, small.im_low);
  im_high = omega (arith, ints, grown.im_high, small.im_high);
  count = omega (arith, grown.count, small.count);
}

-- what two cells have grown by
pub IsGrown-plus : (c d : Cell) (n m : ℕ) → IsGrown c n → IsGrown d m → IsGrown (cell_plus c d) (n + m)
IsGrown-plus c d n m first second = record {
  re_low = omega (arith, ints, first.re_low, second.re_low);
  re_high = omega (arith, ints, first.re_high, second.re_high);
  im_low = omega (arith, ints, first.im_low, second.im_low);
  im_high = omega (arith, ints, first.im_high, second.im_high);
  count = omega (arith, first.count, second.count);
}

-- among more pairs
pub IsGrown-wider : (c : Cell) (n m : ℕ) → IsGrown c n → n ≤ m → IsGrown c m
IsGrown-wider c n m grown h = record {
  re_low = omega (arith, ints, grown.re_low);
  re_high = omega (arith, ints, grown.re_high);
  im_low = omega (arith, ints, grown.im_low);
  im_high = omega (arith, ints, grown.im_high);
  count = omega (arith, grown.count);
}

-- what pairs of small values add up to
pub sum_from-grown : (f : ℕ → Cell) (from n : ℕ) → ((k : ℕ) → IsProduct (f k)) → IsGrown (sum_from f from n) n
sum_from-grown f from zero each = IsGrown-none 0
sum_from-grown f from (suc n) each =
    IsGrown-more (sum_from f from n) (f (from + n)) n (suc n) (sum_from-grown f from n each) (each (from + n)) (omega arith)

pub product_at-small : (z : Samples) (pair : Pair) (samples : ℕ) (lag : ℤ) (n : ℕ)
    → IfSome (z pair.a pair.x (pos n)) AreSmall → IfSome (z pair.b pair.y (pos n +ℤ lag)) AreSmall
    → IsProduct (product_at z pair samples lag n)
product_at-small z pair samples lag n first second = by (is_inside (pos n +ℤ lag) samples)
  where
    by : (inside : Bool) → IsProduct (if inside then product_of (z pair.a pair.x (pos n)) (z pair.b pair.y (pos n +ℤ lag)) else no_cell)
    by true = product_of-small _ _ first second
    by false = no_cell-small

-- the cell of a range of small values
pub cell_in-grown : (z : Samples) (pair : Pair) (samples : ℕ) (lag : ℤ) (from to : ℕ)
    → ((n : ℤ) → IfSome (z pair.a pair.x n) AreSmall) → ((n : ℤ) → IfSome (z pair.b pair.y n) AreSmall)
    → IsGrown (cell_in z pair samples lag from to) (to - from)
unfolding cell_in
cell_in-grown z pair samples lag from to first second =
    sum_from-grown (product_at z pair samples lag) from (to - from) (λ n. product_at-small z pair samples lag n (first (pos n)) (second (pos n +ℤ lag)))
