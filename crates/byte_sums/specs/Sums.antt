-- Sums of products of two rows of bytes.
use Rattle.std.specs.Prelude.{ℕ, zero, suc, ◌+◌, ◌*◌, ◌<◌, ◌≤◌, List, slice_index}

-- the sum of f over the first numbers
unfoldable pub nat_sum : (ℕ → ℕ) → ℕ → ℕ
nat_sum f zero = 0
nat_sum f (suc n) = nat_sum f n + f n

-- what place n of a adds at a lag: its product with the byte of b that is so many places on
abbrev pub lag_product : List ℕ → List ℕ → ℕ → ℕ → ℕ
lag_product a b lag n = slice_index a n * slice_index b (lag + n)

-- the sum over a's first places
abbrev pub lag_sum : List ℕ → List ℕ → ℕ → ℕ → ℕ
lag_sum a b lag = nat_sum (lag_product a b lag)

abbrev pub AreAtMost : ℕ → List ℕ → Type 0
AreAtMost most xs = (i : ℕ) → slice_index xs i ≤ most

-- each byte may be a weight of a `dot4`
abbrev pub AreWeights : List ℕ → Type 0
AreWeights xs = (i : ℕ) → slice_index xs i < 65
