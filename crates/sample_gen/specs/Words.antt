-- The words of a seed: those that SplitMix64 draws once it is begun with the seed.
use Rattle.std.specs.Prelude.{◌≡◌, ℕ, zero, suc, List}
use Rattle.std.specs.Int.{w64, to_le_bytes}
use Rattle.std.specs.List.{flat_map, range_with_len}
use Rattle.rand_core.specs.Stream.{Stream, next_u64}
use Rattle.rand_core.specs.Steps.{stream_of}
use Rattle.rand_xoshiro.specs.SplitMix64.{splitmix_steps}

-- what is left to draw after n words
unfoldable pub words_from : ℕ → ℕ → Stream
words_from seed zero = stream_of splitmix_steps seed
words_from seed (suc n) = (next_u64 (words_from seed n)).1

-- word n, counted from 0
abbrev pub word : ℕ → ℕ → ℕ
word seed n = (next_u64 (words_from seed n)).0

-- the words from number n on are those that a generator in this state draws
abbrev pub AreNext : ℕ → ℕ → ℕ → Type 0
AreNext seed n state = stream_of splitmix_steps state ≡ words_from seed n

-- so many words from number n on, the lowest byte of each first
unfoldable pub bytes_of : ℕ → ℕ → ℕ → List ℕ
bytes_of seed n count = flat_map (λ i. to_le_bytes w64 (word seed i)) (range_with_len n count)
