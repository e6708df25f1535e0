-- The frames of a station, and the recording that they make.
use Rattle.std.specs.Prelude.{ℕ, ◌+◌, ◌*◌, ◌/◌, ◌%◌, Bool, true, false, ◌==◌, if◌then◌else◌, List, [], ◌++◌, replicate}
use Rattle.std.specs.List.{flat_map, range_with_len}
use Rattle.vdif_frame.specs.Header.{HeaderFields, header_bytes}
use Rattle.sample_gen.specs.Words.{word, bytes_of}

-- the header of frame k of a station, counted from 0: ten frames a second from the begin of 2010 on, each of two
-- channels with two bits a sample, and 8,032 bytes long
abbrev pub header_of : Bool → ℕ → ℕ → HeaderFields
header_of invalid station k = record {
  invalid = invalid;
  legacy = false;
  seconds = k / 10;
  spare = 0;
  epoch = 20;
  frame = k % 10;
  version = 0;
  chans_log2 = 1;
  units = 1004;
  complex = false;
  bits = 2;
  thread = 0;
  station = station;
  extended = replicate 16 0;
}

-- a slot: a header, and its data array
abbrev pub slot : Bool → ℕ → ℕ → List ℕ → List ℕ
slot invalid station k array = header_bytes (header_of invalid station k) ++ array

-- the slots of a frame, by a word: of 32 frames one is left out, one is marked invalid, one is there twice, the second
-- time with data all zero, and the others are there once
unfoldable pub slots_by : ℕ → ℕ → ℕ → List ℕ → List ℕ
slots_by w station k array =
    if w % 32 == 0 then []
    else if w % 32 == 1 then slot true station k array
    else if w % 32 == 2 then slot false station k array ++ slot false station k (replicate 8000 0)
    else slot false station k array

-- the slots of frame k, whose 1,001 words begin with number n: the first says which slots there are, the others are data
abbrev pub frame_slots : ℕ → ℕ → ℕ → ℕ → List ℕ
frame_slots seed n station k = slots_by (word seed n) station k (bytes_of seed (n + 1) 1000)

-- the number of the first word of a station's frame k: those of all frames of the stations before come first
abbrev pub first_word : ℕ → ℕ → ℕ → ℕ
first_word seconds station k = 1001 * (10 * seconds * station + k)

-- the recording of a station, ten frames for each of the seconds
unfoldable pub recording_of : ℕ → ℕ → ℕ → List ℕ
recording_of seed seconds station =
    flat_map (λ k. frame_slots seed (first_word seconds station k) station k) (range_with_len 0 (10 * seconds))
