-- A value in a word: its real component in bits 0 to 4, its imaginary one in bits 5 to 9, each with 15 more, which makes it positive,
-- and bit 10 where there is a value. A value that is not there has the components 0.
use Rattle.std.specs.Prelude.{◌≡◌, ℕ, ◌/◌, ◌%◌, ◌^◌, ◌<◌, ◌≤◌, ℤ, pos, negsuc, List, length, slice_index, slice_index_or}
use Rattle.corr_model.specs.Cell.{Value}
use Rattle.byte_streams.specs.Values.{byte_value}

abbrev pub word_value : ℕ → Value
word_value word = byte_value 15 (word % 32) (word / 32 % 32) (word / 1024)

pub record IsWord (word : ℕ) : Type 0 where
  pub re : word % 32 ≤ 30
  pub im : word / 32 % 32 ≤ 30
  pub there : word / 1024 ≤ 1
  pub none : word / 1024 ≡ 0 → word ≡ 495

abbrev pub AreWords : List ℕ → Type 0
AreWords words = (k : ℕ) → k < length words → IsWord (slice_index words k)

-- the five bits of a word from a bit on
abbrev pub field_of : ℕ → ℕ → ℕ
field_of shift word = word / 2 ^ shift % 32

-- the word at a place, and outside the list another one
abbrev pub word_at : List ℕ → ℕ → ℤ → ℕ
word_at words outside (pos k) = slice_index_or words k outside
word_at words outside (negsuc k) = outside
