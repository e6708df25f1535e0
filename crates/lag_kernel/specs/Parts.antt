-- The components of values, and the sums of their products.
use Rattle.std.specs.Prelude.{◌≡◌, ℕ, zero, suc, ◌+◌, ◌*◌, ◌≤◌, ℤ, pos, ◌+ℤ◌, ◌-ℤ◌, ◌*ℤ◌, List, slice_index, slice_index_or, None}
use Rattle.corr_model.specs.declared.cell.Cell.{Cell}
use Rattle.corr_model.specs.Cell.{Value, IsSmall}
use Rattle.byte_streams.specs.Values.{re_of, im_of, there_of}
use Rattle.lag_kernel.specs.declared.parts.Parts.{Parts}

-- a list that holds a part of each value, and that of none past the last one
abbrev pub HoldsPart : {X : Type 0} → (Value → X) → List Value → List X → Type 0
HoldsPart part values held = (k : ℕ) → slice_index_or held k (part None) ≡ part (slice_index_or values k None)

-- the parts of these values
pub record AreParts (values : List Value) (parts : Parts) : Type 0 where
  pub re : HoldsPart re_of values parts.re
  pub im : HoldsPart im_of values parts.im
  pub there : HoldsPart there_of values parts.there

-- small components, and 1 at most for a value that is there
pub record AreSmallParts (parts : Parts) : Type 0 where
  pub re : (k : ℕ) → IsSmall (slice_index_or parts.re k (pos 0))
  pub im : (k : ℕ) → IsSmall (slice_index_or parts.im k (pos 0))
  pub there : (k : ℕ) → slice_index parts.there k ≤ 1

-- the sum of the products of n components and others from i on
abbrev pub dot_of : List ℤ → List ℤ → ℕ → ℕ → ℤ
dot_of a b i zero = pos 0
dot_of a b i (suc n) = dot_of a b i n +ℤ (slice_index_or a n (pos 0) *ℤ slice_index_or b (i + n) (pos 0))

-- how many of n values are there with others from i on
abbrev pub both_of : List ℕ → List ℕ → ℕ → ℕ → ℕ
both_of a b i zero = 0
both_of a b i (suc n) = both_of a b i n + slice_index a n * slice_index b (i + n)

-- what the pairs of n values and others from i on add up to
abbrev pub parts_sum : Parts → Parts → ℕ → ℕ → Cell
parts_sum a b i n = record {
  re = dot_of a.re b.re i n +ℤ dot_of a.im b.im i n;
  im = dot_of a.im b.re i n -ℤ dot_of a.re b.im i n;
  count = both_of a.there b.there i n;
}
