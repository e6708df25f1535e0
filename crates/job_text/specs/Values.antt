-- What the fields behind a word say, none where they say nothing that is in its range.
use Rattle.std.specs.Prelude.{ℕ, ◌+◌, ◌-◌, ◌*◌, ◌%◌, ◌^◌, unsigned_abs, Bool, ◌&&◌, ◌==◌, nat_lt, nat_le, if◌then◌else◌, List, [], length, drop, codes, bytes_eq, Option, Some, None}
use Rattle.vdif_frame.specs.Shape.{head_bytes}
use Rattle.delay_poly.specs.declared.entry.PolyEntry.{PolyEntry}
use Rattle.station_clock.specs.declared.entry.ClockEntry.{ClockEntry}
use Rattle.job_text.specs.declared.places.ChanPlace.{ChanPlace}
use Rattle.job_text.specs.declared.places.ScanSpan.{ScanSpan}
use Rattle.job_text.specs.declared.places.Band.{Band}
use Rattle.job_text.specs.Job.{StationFields}
use Rattle.job_lines.specs.Values.{poly_from}
pub use Rattle.job_lines.specs.Values.{◌>>=◌, field}
unfoldable pub use Rattle.job_lines.specs.Values.{whole_of, second_of, number_within}

-- a name that the records can hold
abbrev pub name_fits : List ℕ → Bool
name_fits name = nat_le 1 (length name) && nat_le (length name) 255

-- an even number of lags from 2 to 1024
unfoldable pub lags_in : List (List ℕ) → Option ℕ
lags_in fields = do
  n ← number_within 2 1024 (field fields 0)
  if n % 2 == 0 then Some n else None

-- samples of an integration, of an epoch and from one knot to the next, and samples a second
abbrev pub integration_in : List (List ℕ) → Option ℕ
integration_in fields = number_within 1 (2 ^ 36) (field fields 0)

abbrev pub epoch_in : List (List ℕ) → Option ℕ
epoch_in fields = number_within 1 4194304 (field fields 0)

abbrev pub knot_in : List (List ℕ) → Option ℕ
knot_in fields = number_within 1 (2 ^ 24) (field fields 0)

abbrev pub rate_in : List (List ℕ) → Option ℕ
rate_in fields = number_within 1 (2 ^ 32 - 1) (field fields 0)

-- the power of two that a number of channels is, from 1 to 64 of them
abbrev pub log2_of : ℕ → Option ℕ
log2_of n =
    if n == 1 then Some 0 else if n == 2 then Some 1 else if n == 4 then Some 2 else if n == 8 then Some 3
    else if n == 16 then Some 4 else if n == 32 then Some 5 else if n == 64 then Some 6 else None

-- The length of a frame with its header: whole units of 8 bytes, one of them at least behind the header, which hold
-- whole complete samples (VDIF 1.1.1, frame length and data array).
unfoldable pub frame_bytes_in : Bool → ℕ → ℕ → List ℕ → Option ℕ
frame_bytes_in legacy bits chans text = do
  n ← number_within (head_bytes legacy + 8) 131072 text
  if (n % 8 == 0) && (8 * (n - head_bytes legacy) % (bits * chans) == 0) then Some n else None

-- the bits of a sample: 1, 2 or 4
abbrev pub width_of : ℕ → Option ℕ
width_of n = if n == 1 then Some 1 else if n == 2 then Some 2 else if n == 4 then Some 4 else None

abbrev pub width_in : List ℕ → Option ℕ
width_in text = do
  n ← number_within 1 4 text
  width_of n

-- a station of 1, 2 or 4 bits a sample; a sixth field says that its frames have the short header
unfoldable pub station_in : List (List ℕ) → Option StationFields
station_in fields = do
  id ← number_within 0 65535 (field fields 1)
  bits ← width_in (field fields 2)
  chans ← number_within 1 64 (field fields 3)
  chans_log2 ← log2_of chans
  frame_bytes ← frame_bytes_in (nat_lt 5 (length fields)) bits chans (field fields 4)
  if name_fits (field fields 0) then Some (record {
    key = field fields 0;
    id = id;
    bits = bits;
    chans_log2 = chans_log2;
    frame_bytes = frame_bytes;
    legacy = nat_lt 5 (length fields);
    files = [];
    chans = [];
    clocks = [];
    polys = [];
  }) else None

-- a channel and its place, where a complete sample has so many channels
unfoldable pub chan_in : ℕ → List (List ℕ) → Option (List ℕ × ChanPlace)
chan_in chans fields = do
  thread ← number_within 0 1023 (field fields 2)
  index ← number_within 0 (chans - 1) (field fields 3)
  if name_fits (field fields 1) then Some (field fields 1, record { thread = thread; index = index }) else None

-- a clock's offset and drift
unfoldable pub clock_in : List (List ℕ) → Option ClockEntry
clock_in fields = do
  second ← second_of (field fields 1)
  c0 ← whole_of (field fields 2)
  c1 ← whole_of (field fields 3)
  if nat_lt (unsigned_abs c0) (2 ^ 57) && nat_lt (unsigned_abs c1) (2 ^ 25)
      then Some (record { second = second; c0 = c0; c1 = c1 }) else None

-- the polynomial from a time on
unfoldable pub poly_in : List (List ℕ) → Option PolyEntry
poly_in fields = poly_from (field fields 1) (drop 2 fields)

-- a scan and its span
unfoldable pub scan_in : List (List ℕ) → Option (List ℕ × ScanSpan)
scan_in fields = do
  second ← second_of (field fields 1)
  samples ← number_within 0 (2 ^ 40) (field fields 2)
  if name_fits (field fields 0) then Some (field fields 0, record { second = second; samples = samples }) else None

-- a channel and its band
unfoldable pub band_in : List (List ℕ) → Option (List ℕ × Band)
band_in fields = do
  hertz ← number_within 0 (2 ^ 40 - 1) (field fields 1)
  Some (field fields 0, record { hertz = hertz; upper = bytes_eq (field fields 2) (codes "U") })
