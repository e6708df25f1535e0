-- The header of a data frame (VDIF 1.1.1, data frame header): eight words of 32 bits, the lowest byte of each
-- first, or the first four of them in a legacy frame.
use Rattle.std.specs.Prelude.{◌≡◌, ℕ, ◌+◌, ◌-◌, ◌*◌, ◌/◌, ◌%◌, ◌^◌, ◌≤◌, ◌<◌, Bool, true, false, ◌==◌, List, [], ◌++◌, length, take, drop, replicate, if◌then◌else◌}
use Rattle.byteorder.specs.Endian.{little_number, little_bytes}

-- what a header says, field by field
pub record HeaderFields : Type 0 where
  pub invalid : Bool
  pub legacy : Bool
  pub seconds : ℕ
  pub spare : ℕ
  pub epoch : ℕ
  pub frame : ℕ
  pub version : ℕ
  pub chans_log2 : ℕ
  pub units : ℕ
  pub complex : Bool
  pub bits : ℕ
  pub thread : ℕ
  pub station : ℕ
  pub extended : List ℕ

-- word w of a header
abbrev pub word : List ℕ → ℕ → ℕ
word bytes w = little_number 4 (drop (4 * w) bytes)

-- the number in the bits high to low of word w
abbrev pub field : List ℕ → ℕ → ℕ → ℕ → ℕ
field bytes w high low = word bytes w / 2 ^ low % 2 ^ (high + 1 - low)

-- the bit that marks a legacy frame
abbrev pub legacy_bit : List ℕ → Bool
legacy_bit bytes = field bytes 0 30 30 == 1

-- the fields of the header that these bytes begin with. The number of bits in a sample is one more
-- than its field, and a legacy frame has no extended words.
unfoldable pub fields_of : List ℕ → HeaderFields
fields_of bytes = record {
  invalid = field bytes 0 31 31 == 1;
  legacy = legacy_bit bytes;
  seconds = field bytes 0 29 0;
  spare = field bytes 1 31 30;
  epoch = field bytes 1 29 24;
  frame = field bytes 1 23 0;
  version = field bytes 2 31 29;
  chans_log2 = field bytes 2 28 24;
  units = field bytes 2 23 0;
  complex = field bytes 3 31 31 == 1;
  bits = field bytes 3 30 26 + 1;
  thread = field bytes 3 25 16;
  station = field bytes 3 15 0;
  extended = if legacy_bit bytes then replicate 16 0 else take 16 (drop 16 bytes);
}

-- there are bytes enough for the header that they begin
pub record HasHeader (bytes : List ℕ) : Type 0 where
  pub four_words : 16 ≤ length bytes
  pub eight_words : legacy_bit bytes ≡ false → 32 ≤ length bytes

-- each field lies in the range that its bits have
pub record AreInRange (h : HeaderFields) : Type 0 where
  pub seconds : h.seconds < 2 ^ 30
  pub spare : h.spare < 2 ^ 2
  pub epoch : h.epoch < 2 ^ 6
  pub frame : h.frame < 2 ^ 24
  pub version : h.version < 2 ^ 3
  pub chans_log2 : h.chans_log2 < 2 ^ 5
  pub units : h.units < 2 ^ 24
  pub some_bits : 1 ≤ h.bits
  pub bits : h.bits ≤ 2 ^ 5
  pub thread : h.thread < 2 ^ 10
  pub station : h.station < 2 ^ 16
  pub extended : length h.extended ≡ 16
  pub legacy_zero : h.legacy ≡ true → h.extended ≡ replicate 16 0

-- a field of one bit as a number
abbrev pub bit_of : Bool → ℕ
bit_of b = if b then 1 else 0

-- words 0 to 3 of a header: each field stands at the place of its lowest bit
abbrev pub word_0 : HeaderFields → ℕ
word_0 h = bit_of h.invalid * 2 ^ 31 + bit_of h.legacy * 2 ^ 30 + h.seconds

abbrev pub word_1 : HeaderFields → ℕ
word_1 h = h.spare * 2 ^ 30 + h.epoch * 2 ^ 24 + h.frame

abbrev pub word_2 : HeaderFields → ℕ
word_2 h = h.version * 2 ^ 29 + h.chans_log2 * 2 ^ 24 + h.units

abbrev pub word_3 : HeaderFields → ℕ
word_3 h = bit_of h.complex * 2 ^ 31 + (h.bits - 1) * 2 ^ 26 + h.thread * 2 ^ 16 + h.station

-- the bytes of a header. A legacy frame has no extended words.
unfoldable pub header_bytes : HeaderFields → List ℕ
header_bytes h =
    little_bytes 4 (word_0 h) ++ little_bytes 4 (word_1 h) ++ little_bytes 4 (word_2 h) ++ little_bytes 4 (word_3 h)
    ++ (if h.legacy then [] else h.extended)
