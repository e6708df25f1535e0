-- The bytes of a window while its sweeps are filled in.
use Rattle.std.specs.Prelude.{◌≡◌, ℕ, ◌+◌, ◌≤◌, ◌<◌, List, [], length, map, Option, Some, None, slice_index, slice_index_or, Vec}
use Rattle.std.specs.Global.{Global}
use Rattle.dev_traits.specs.Told.{WhereTold}
use Rattle.frame_index.specs.Recording.{Shelved}
use Rattle.station_stream.specs.declared.chan.StationChan.{StationChan}
use Rattle.station_stream.specs.declared.part.StationPart.{StationPart}
use Rattle.station_stream.specs.declared.window.Window.{Window}
use Rattle.station_stream.specs.Part.{chan_at, chan_value}
use Rattle.value_codes.specs.Codes.{value_of}
use Rattle.station_stream.specs.Window.{AreValues}

-- the bytes at the part's samples before `upto` are those of a channel's values there
abbrev pub AreValuesBefore : Shelved → StationPart → StationChan → ℕ → ℕ → List ℕ → Type 0
AreValuesBefore told part chan from upto codes =
    (k : ℕ) → k < length codes → part.from ≤ from + k → from + k < upto
    → value_of (slice_index codes k) ≡ chan_value told part chan (from + k)

-- a byte for each sample of the window, 0 at those outside the part
pub record IsBlank (part : StationPart) (w : Window) (codes : List ℕ) : Type 0 where
  pub long : length codes ≡ w.count
  pub before : (k : ℕ) → w.from + k < part.from → slice_index codes k ≡ 0
  pub behind : (k : ℕ) → part.to ≤ w.from + k → slice_index codes k ≡ 0

-- those before `upto` are filled in
pub record IsFilled (told : Option Shelved) (part : StationPart) (chan : StationChan) (w : Window) (upto : ℕ) (codes : List ℕ) : Type 0 where
  pub blank : IsBlank part w codes
  pub values : WhereTold told (λ told. AreValuesBefore told part chan w.from upto codes)

-- no bytes of a channel that the station lacks
abbrev pub AreFilled : Option Shelved → StationPart → Option StationChan → Window → ℕ → List ℕ → Type 0
AreFilled told part None w upto codes = codes ≡ []
AreFilled told part (Some chan) w upto codes = IsFilled told part chan w upto codes

-- the bytes of each channel
abbrev pub AllFilled : Option Shelved → StationPart → Window → ℕ → List (Vec ℕ Global) → Type 0
AllFilled told part w upto chans =
    (i : ℕ) (d : Vec ℕ Global) → i < length chans → AreFilled told part (chan_at part.chans.now i) w upto (slice_index_or chans i d).items

-- the values of each channel
abbrev pub AllValues : Shelved → StationPart → ℕ → ℕ → List (Vec ℕ Global) → Type 0
AllValues told part from count chans =
    (chan : ℕ) → chan < length part.chans.now
    → AreValues told part (chan_at part.chans.now chan) from count (slice_index_or (map (λ codes. map value_of codes.items) chans) chan [])
