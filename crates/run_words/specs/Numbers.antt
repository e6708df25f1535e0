-- Numbers among the words.
use Rattle.std.specs.Prelude.{ℕ, Bool, ◌&&◌, nat_le, List, length, if◌then◌else◌, Result, Ok, Err}
use Rattle.std.specs.Str.Parse.{digits_value}
use Rattle.num_time.specs.Numerals.{are_digits}
use Rattle.run_words.specs.declared.fault.WordsFault.{WordsFault}
use Rattle.run_words.specs.declared.fault.WordsFault.TheVariants.{Value}

-- 1 to 20 digits
abbrev pub is_count : List ℕ → Bool
is_count text = nat_le 1 (length text) && (nat_le (length text) 20 && are_digits text)

-- a number from `least` to `most`
abbrev pub within : ℕ → ℕ → ℕ → Result ℕ WordsFault
within least most number = if nat_le least number && nat_le number most then Ok number else Err Value

-- the number from `least` to `most` that a text writes
unfoldable pub number_in : ℕ → ℕ → List ℕ → Result ℕ WordsFault
number_in least most text = if is_count text then within least most (digits_value 10 text) else Err Value

-- the number of workers, from 1 to 64
abbrev pub workers_in : List ℕ → Result ℕ WordsFault
workers_in = number_in 1 64

-- the samples of an epoch, from 1 to 4,194,304
abbrev pub epoch_in : List ℕ → Result ℕ WordsFault
epoch_in = number_in 1 4194304

-- the samples of a piece, from 64 to 4,194,304
abbrev pub piece_in : List ℕ → Result ℕ WordsFault
piece_in = number_in 64 4194304
