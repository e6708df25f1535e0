-- Values that are held for a block of samples, and what their pairs add up to.
use Rattle.std.specs.Prelude.{◌≡◌, ℕ, ◌-◌, ◌<◌, ◌≤◌, ◌^◌, ℤ, pos, ◌+ℤ◌, List, length, slice_index_or, None, IfSome, if◌then◌else◌}
use Rattle.corr_model.specs.declared.cell.Cell.{Cell}
use Rattle.corr_model.specs.Cell.{Value, Samples, AreSmall, is_inside, product_of, cell_plus, sum_from}

-- so many samples at most of a scan, from one up to another
pub record IsRange (size from to samples : ℕ) : Type 0 where
  pub order : from ≤ to
  pub inside : to ≤ samples
  pub scan : samples ≤ 2 ^ 40
  pub most : to - from ≤ size

-- the value of a station's channel at a sample of the scan, none outside the scan
abbrev pub value_inside : Samples → ℕ → ℕ → ℕ → ℤ → Value
value_inside z station chan samples n = if is_inside n samples then z station chan n else None

-- the values from a place on
abbrev pub HoldsValues : Samples → ℕ → ℕ → ℕ → ℤ → List Value → Type 0
HoldsValues z station chan samples start held =
    (k : ℕ) → k < length held → slice_index_or held k None ≡ value_inside z station chan samples (start +ℤ pos k)

-- each value that is there is small
abbrev pub AllSmall : List Value → Type 0
AllSmall held = (k : ℕ) → k < length held → IfSome (slice_index_or held k None) AreSmall

-- what the pairs of two lists add up to, place by place
abbrev pub pairs_sum : List Value → List Value → ℕ → Cell
pairs_sum first second count = sum_from (λ k. product_of (slice_index_or first k None) (slice_index_or second k None)) 0 count

-- each cell has grown by its own
abbrev pub AddsEach : List Cell → List Cell → (ℕ → Cell) → Type 0
AddsEach old new more = (k : ℕ) (d : Cell) → k < length old → slice_index_or new k d ≡ cell_plus (slice_index_or old k d) (more k)
