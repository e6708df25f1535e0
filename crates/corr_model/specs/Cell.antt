-- Cells: what the pairs of samples at one lag add up to (Thompson, Moran and Swenson, chapter 8).
use Rattle.std.specs.Prelude.{ℕ, zero, suc, ◌+◌, ◌-◌, ◌≤◌, ℤ, pos, ◌+ℤ◌, ◌-ℤ◌, ◌*ℤ◌, ◌≤ℤ◌, neg_ℤ, int_le, int_lt, Bool, ◌&&◌, if◌then◌else◌, Option, Some, None}
use Rattle.corr_model.specs.declared.cell.Cell.{Cell}
use Rattle.corr_model.specs.declared.cell.Pair.{Pair}

-- a value with its two components, none where there is no sample
abbrev pub Value : Type 0
Value = Option (ℤ × ℤ)

-- the values of the stations' channels at each sample number
abbrev pub Samples : Type 0
Samples = ℕ → ℕ → ℤ → Value

abbrev pub no_cell : Cell
no_cell = record { re = pos 0; im = pos 0; count = 0 }

abbrev pub cell_plus : Cell → Cell → Cell
cell_plus c d = record { re = c.re +ℤ d.re; im = c.im +ℤ d.im; count = c.count + d.count }

-- what two values add: the product of the first and the conjugate of the second, counted where both
-- are there
abbrev pub product_of : Value → Value → Cell
product_of (Some a) (Some b) = record {
  re = a.0 *ℤ b.0 +ℤ a.1 *ℤ b.1;
  im = a.1 *ℤ b.0 -ℤ a.0 *ℤ b.1;
  count = 1;
}
product_of (Some a) None = no_cell
product_of None b = no_cell

-- a sample number inside a scan of so many samples
abbrev pub is_inside : ℤ → ℕ → Bool
is_inside n samples = int_le (pos 0) n && int_lt n (pos samples)

-- what sample n of the first station adds, with the second station's sample n + lag
abbrev pub product_at : Samples → Pair → ℕ → ℤ → ℕ → Cell
product_at z pair samples lag n =
    if is_inside (pos n +ℤ lag) samples
    then product_of (z pair.a pair.x (pos n)) (z pair.b pair.y (pos n +ℤ lag))
    else no_cell

-- the sum of f over the count numbers from `from` on
abbrev pub sum_from : (ℕ → Cell) → ℕ → ℕ → Cell
sum_from f from zero = no_cell
sum_from f from (suc count) = cell_plus (sum_from f from count) (f (from + count))

-- the cell of the sample numbers from `from` up to, not including, `to`
unfoldable pub cell_in : Samples → Pair → ℕ → ℤ → ℕ → ℕ → Cell
cell_in z pair samples lag from to = sum_from (product_at z pair samples lag) from (to - from)

-- a component is at most 15 in magnitude
abbrev pub IsSmall : ℤ → Type 0
IsSmall x = (neg_ℤ (pos 15) ≤ℤ x) × (x ≤ℤ pos 15)

abbrev pub AreSmall : ℤ × ℤ → Type 0
AreSmall v = IsSmall v.0 × IsSmall v.1

-- what one pair can add: at most two products of two small components in each part
pub record IsProduct (c : Cell) : Type 0 where
  pub re_low : neg_ℤ (pos 450) ≤ℤ c.re
  pub re_high : c.re ≤ℤ pos 450
  pub im_low : neg_ℤ (pos 450) ≤ℤ c.im
  pub im_high : c.im ≤ℤ pos 450
  pub count : c.count ≤ 1
