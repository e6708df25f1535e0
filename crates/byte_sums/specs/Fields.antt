-- Bytes that hold two small numbers, one in the six lower bits and one in the two upper ones, and sums of products with either.
use Rattle.std.specs.Prelude.{◌≡◌, ℕ, ◌+◌, ◌*◌, ◌/◌, ◌%◌, ◌≤◌, List, slice_index}
use Rattle.byte_sums.specs.Sums.{nat_sum}

-- what place n of a adds at a lag: its product with the lower number of the byte of b that is so many places on
abbrev pub lower_product : List ℕ → List ℕ → ℕ → ℕ → ℕ
lower_product a b lag n = slice_index a n * (slice_index b (lag + n) % 64)

-- the same with the upper number
abbrev pub upper_product : List ℕ → List ℕ → ℕ → ℕ → ℕ
upper_product a b lag n = slice_index a n * (slice_index b (lag + n) / 64)

abbrev pub lower_sum : List ℕ → List ℕ → ℕ → ℕ → ℕ
lower_sum a b lag = nat_sum (lower_product a b lag)

abbrev pub upper_sum : List ℕ → List ℕ → ℕ → ℕ → ℕ
upper_sum a b lag = nat_sum (upper_product a b lag)

-- both numbers of each byte are at most 3
abbrev pub AreFields : List ℕ → Type 0
AreFields b = (i : ℕ) → (slice_index b i % 64 ≤ 3) × (slice_index b i / 64 ≤ 3)

-- the product of a byte of b and its place of a
abbrev pub byte_product : List ℕ → List ℕ → ℕ → ℕ → ℕ
byte_product a b lag n = slice_index b (lag + n) * slice_index a n

-- the products at two neighbouring places from one on, so many pairs behind it
abbrev pub pair_product : List ℕ → List ℕ → ℕ → ℕ → ℕ → ℕ
pair_product a b lag from k = byte_product a b lag (from + 2 * k) + byte_product a b lag (from + (2 * k + 1))

-- those of three vectors
abbrev pub triple_product : List ℕ → List ℕ → ℕ → ℕ → ℕ → ℕ
triple_product a b lag from k = pair_product a b lag from k + pair_product a b lag (from + 32) k + pair_product a b lag (from + 64) k

-- a byte of a level of one or two bits: even, and at most 6
pub record IsLevel (x : ℕ) : Type 0 where
  pub even : x % 2 ≡ 0
  pub small : x ≤ 6
