-- What the values of a statement say: words, names, and what a station and a channel are given.
use Rattle.std.specs.Prelude.{ℕ, ℤ, Bool, not, ◌&&◌, ◌==◌, nat_le, nat_lt, true, false, if◌then◌else◌, List, [], ◌∷◌, length, drop, slice_get, slice_index, codes, bytes_eq, Option, Some, None}
use Rattle.std.specs.Result.{result_ok}
use Rattle.num_time.specs.Times.{vex_second_of}
use Rattle.scan_list.specs.declared.scan.Chan.{Chan}
use Rattle.vex_schedule.specs.declared.stay.Stay.{Stay}
use Rattle.vex_schedule.specs.Optional.{◌>>=◌}
use Rattle.vex_schedule.specs.Quantities.{frequency_of, rate_of, offset_of}

-- the one thing of a list that has exactly one
unfoldable pub sole : {A : Type 0} → List A → Option A
sole [] = None
sole (x ∷ []) = Some x
sole (x ∷ y ∷ xs) = None

-- a text of a value is a word unless it is quoted, and then it begins with a quote, 34
abbrev pub is_word : List ℕ → Bool
is_word text = not (slice_index text 0 == 34)

-- the word of a value that is one word
unfoldable pub word_of : List (List ℕ) → Option (List ℕ)
word_of value = do
  text ← sole value
  if is_word text then Some text else None

-- a name has 1 to 255 bytes
abbrev pub is_name : List ℕ → Bool
is_name name = nat_lt 0 (length name) && nat_le (length name) 255

-- the word of a statement that has one value of one word
unfoldable pub only_word : List (List (List ℕ)) → Option (List ℕ)
only_word values = do
  value ← sole values
  word_of value

-- the second at which a scan starts, the one word of a `start`
unfoldable pub start_in : List (List (List ℕ)) → Option ℤ
start_in values = do
  word ← only_word values
  result_ok (vex_second_of word)

-- the one value of a `sample_rate`
unfoldable pub rate_in : List (List (List ℕ)) → Option ℕ
rate_in values = do
  value ← sole values
  rate_of value

-- what a value says that stands at a place, counted from 0
unfoldable pub word_at : List (List (List ℕ)) → ℕ → Option (List ℕ)
word_at values i = slice_get values i >>= word_of

unfoldable pub offset_at : List (List (List ℕ)) → ℕ → Option ℤ
offset_at values i = slice_get values i >>= offset_of

unfoldable pub frequency_at : List (List (List ℕ)) → ℕ → Option ℕ
frequency_at values i = slice_get values i >>= frequency_of

-- the key of a `station`, when it starts and when it stops, which are its first three values
unfoldable pub stay_in : List (List (List ℕ)) → Option Stay
stay_in values = do
  key ← word_at values 0
  from ← offset_at values 1
  to ← offset_at values 2
  Some (record { key = key; from_us = from; to_us = to })

-- whether a side is the upper one, the word U, or the lower one, L
unfoldable pub side_at : List (List (List ℕ)) → ℕ → Option Bool
side_at values i = do
  word ← word_at values i
  if bytes_eq word (codes "U") then Some true else if bytes_eq word (codes "L") then Some false else None

-- a link without one leading `&`, 38
abbrev pub without_sign : List ℕ → List ℕ
without_sign link = if slice_index link 0 == 38 then drop 1 link else link

-- the name of a channel, which its link gives
unfoldable pub id_at : List (List (List ℕ)) → ℕ → Option (List ℕ)
id_at values i = do
  link ← word_at values i
  if is_name (without_sign link) then Some (without_sign link) else None

-- the channel of a `chan_def`, which has five values or more and says nothing in the first
unfoldable pub chan_in : List (List (List ℕ)) → Option Chan
chan_in values = do
  hertz ← frequency_at values 1
  upper ← side_at values 2
  band ← frequency_at values 3
  id ← id_at values 4
  Some (record { id = id; hertz = hertz; upper = upper; band_hertz = band })
