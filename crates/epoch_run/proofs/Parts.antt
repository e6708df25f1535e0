-- The amounts of the parts of a range add up to that of the range.
use Rattle.std.proofs.Common.{◌≡◌, ℕ, zero, suc, ◌+◌, ◌-◌, ◌*◌, ◌≤◌, ◌<◌, min, ℤ, pos, ◌+ℤ◌, ◌-ℤ◌, ◌≤ℤ◌, neg_ℤ, unsigned_abs, get_or, refl, sym, ap, ◌∙◌, arith}
use Rattle.std.proofs.lemmas.Int.{ints}
use Rattle.corr_model.specs.declared.cell.Cell.{Cell}
use Rattle.corr_model.specs.Cell.{no_cell, cell_plus}
use Rattle.corr_model.proofs.CellLemmas.{IsGrown, same_cell}
use Rattle.piece_claim.specs.State.{sum_below}
use Rattle.piece_plan.specs.Parts.{part_at, part_count}
use Rattle.piece_plan.proofs.Quotients.{below_ceil, ceil_covers}
use Rattle.epoch_run.specs.Amounts.{amounts_in, bias_of}
use Rattle.epoch_run.proofs.BinnedCells.{AddsUp}

-- number r of the amounts of a cell
abbrev pub amount_in : ℕ → ℕ → Cell → ℕ
amount_in r bias c = get_or (amounts_in bias c) r 0

biased-plus : (x y : ℤ) (n m : ℕ) → neg_ℤ (pos (450 * n)) ≤ℤ x → neg_ℤ (pos (450 * m)) ≤ℤ y
    → unsigned_abs (x +ℤ pos (450 * n)) + unsigned_abs (y +ℤ pos (450 * m)) ≡ unsigned_abs ((x +ℤ y) +ℤ pos (450 * (n + m)))
biased-plus x y n m h k = omega (arith, ints)

amount_in-plus : (r : ℕ) (c d : Cell) (n m : ℕ) → IsGrown c n → IsGrown d m
    → amount_in r (bias_of n) c + amount_in r (bias_of m) d ≡ amount_in r (bias_of (n + m)) (cell_plus c d)
amount_in-plus zero c d n m h k = biased-plus c.re d.re n m h.re_low k.re_low
amount_in-plus (suc zero) c d n m h k = biased-plus c.im d.im n m h.im_low k.im_low
amount_in-plus (suc (suc zero)) c d n m h k = refl
amount_in-plus (suc (suc (suc r))) c d n m h k = omega arith

amount_in-none : (r : ℕ) → amount_in r (bias_of 0) no_cell ≡ 0
amount_in-none zero = omega (arith, ints)
amount_in-none (suc zero) = omega (arith, ints)
amount_in-none (suc (suc zero)) = refl
amount_in-none (suc (suc (suc r))) = refl

biased-most : (x : ℤ) (n : ℕ) → neg_ℤ (pos (450 * n)) ≤ℤ x → x ≤ℤ pos (450 * n) → unsigned_abs (x +ℤ pos (450 * n)) ≤ 900 * n
biased-most x n h k = omega (arith, ints)

-- no amount is greater than twice the bias
pub amount_in-most : (r : ℕ) (c : Cell) (n : ℕ) → IsGrown c n → amount_in r (bias_of n) c ≤ 900 * n
amount_in-most zero c n h = biased-most c.re n h.re_low h.re_high
amount_in-most (suc zero) c n h = biased-most c.im n h.im_low h.im_high
amount_in-most (suc (suc zero)) c n h = omega (arith, h.count)
amount_in-most (suc (suc (suc r))) c n h = omega arith

unbiased-sum : (x : ℤ) (a n : ℕ) → neg_ℤ (pos (450 * n)) ≤ℤ x → a ≡ unsigned_abs (x +ℤ pos (450 * n)) → pos a -ℤ pos (450 * n) ≡ x
unbiased-sum x a n h e = omega (arith, ints)

-- a cell from its amounts
pub cell-amounts : (c : Cell) (n a b e : ℕ) → IsGrown c n → a ≡ amount_in 0 (bias_of n) c → b ≡ amount_in 1 (bias_of n) c
    → e ≡ amount_in 2 (bias_of n) c
    → ◌≡◌ {A = Cell} (record { re = pos a -ℤ pos (bias_of n); im = pos b -ℤ pos (bias_of n); count = e }) c
cell-amounts c n a b e h p q s =
    same_cell (pos a -ℤ pos (bias_of n)) c.re (pos b -ℤ pos (bias_of n)) c.im e c.count (unbiased-sum c.re a n h.re_low p)
    (unbiased-sum c.im b n h.im_low q) s

module _ (over : ℕ → ℕ → Cell) (adds : AddsUp over) (r : ℕ) where
  -- number r of the cell over a range
  abbrev pub amount_over : ℕ → ℕ → ℕ
  amount_over from to = amount_in r (bias_of (to - from)) (over from to)

  amount_over-split : (from middle to : ℕ) → from ≤ middle → middle ≤ to
      → amount_over from middle + amount_over middle to ≡ amount_over from to
  amount_over-split from middle to h k =
      let c = over from middle in
      let d = over middle to in
      let count : (middle - from) + (to - middle) ≡ to - from = omega (arith, h, k) in
      amount_in-plus r c d (middle - from) (to - middle) (adds.within from middle) (adds.within middle to)
      ∙ ap (λ (n : ℕ). amount_in r (bias_of n) (cell_plus c d)) count
      ∙ ap (amount_in r (bias_of (to - from))) (sym (adds.split from middle to h k))

  amount_over-none : (from : ℕ) → amount_over from from ≡ 0
  amount_over-none from =
      let count : from - from ≡ 0 = omega arith in
      ap (amount_in r (bias_of (from - from))) (adds.none from)
      ∙ ap (λ (n : ℕ). amount_in r (bias_of n) no_cell) count
      ∙ amount_in-none r

  module _ (from to step : ℕ) (order : from ≤ to) (some : 0 < step) where
    -- that of part k
    abbrev pub part_amount : ℕ → ℕ
    part_amount k = amount_over (part_at from to step k).from (part_at from to step k).to

    first_parts : (k : ℕ) → k ≤ part_count from to step → sum_below part_amount k ≡ amount_over from (min (from + k * step) to)
    first_parts zero h =
        let here : from ≡ min (from + zero * step) to = omega (arith, order) in
        sym (amount_over-none from) ∙ ap (amount_over from) here
    first_parts (suc k) h =
        let begun : k * step < to - from = below_ceil (to - from) step k some (omega (arith, h)) in
        let here : min (from + k * step) to ≡ from + k * step = omega (arith, begun) in
        let end : min (from + (k + 1) * step) to ≡ min (from + suc k * step) to = omega arith in
        ap (λ (n : ℕ). n + part_amount k) (first_parts k (omega (arith, h)) ∙ ap (amount_over from) here)
        ∙ amount_over-split from (from + k * step) (min (from + (k + 1) * step) to) (omega arith) (omega (arith, begun))
        ∙ ap (amount_over from) end

    pub all_parts : sum_below part_amount (part_count from to step) ≡ amount_over from to
    all_parts =
        let covers = ceil_covers (to - from) step some in
        let end : min (from + part_count from to step * step) to ≡ to = omega (arith, covers, order) in
        first_parts (part_count from to step) (omega arith) ∙ ap (amount_over from) end
