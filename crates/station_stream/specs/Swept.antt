-- The frames of a station's part in a window of a scan, sweep by sweep.
use Rattle.std.specs.Prelude.{◌≡◌, ℕ, ◌≤◌, ◌<◌, List, length, Option, Some, slice_index_or}
use Rattle.std.specs.List.{All, Contains}
use Rattle.frame_index.specs.Recording.{Shelved}
use Rattle.station_stream.specs.declared.chan.StationChan.{StationChan}
use Rattle.station_stream.specs.declared.part.StationPart.{StationPart}
use Rattle.station_stream.specs.declared.threads.Threads.{Threads}
use Rattle.station_stream.specs.Part.{chan_at}
use Rattle.station_stream.specs.Sweep.{LieIn}
use Rattle.station_stream.specs.Threads.{AreThreads}

-- sample n of the scan lies in the sweep
abbrev pub IsIn : ℕ → Threads → Type 0
IsIn n t = (t.sweep.from ≤ n) × (n < t.sweep.to)

-- a sweep of the part, and the frames of each thread that has one of its channels
pub record IsSwept (told : Option Shelved) (part : StationPart) (t : Threads) : Type 0 where
  pub begun : part.from ≤ t.sweep.from
  pub order : t.sweep.from ≤ t.sweep.to
  pub ends : t.sweep.to ≤ part.to
  pub lie : LieIn part.track t.sweep.from t.sweep.to t.sweep.first t.sweep.last
  pub threads : AreThreads told part t
  pub each : (chan : ℕ) (c : StationChan) → chan_at part.chans.now chan ≡ Some c → Contains t.numbers.items c.thread

-- sample n lies in one of these sweeps
pub record IsInOne (sweeps : List Threads) (n : ℕ) : Type 0 where
  pub place : ℕ
  pub there : place < length sweeps
  pub lies : (d : Threads) → IsIn n (slice_index_or sweeps place d)

-- sweeps in which all of the part's samples from `from` up to, not including, `to` lie
pub record AreSwept (told : Option Shelved) (part : StationPart) (from to : ℕ) (sweeps : List Threads) : Type 0 where
  pub each : All (IsSwept told part) sweeps
  pub cover : (n : ℕ) → part.from ≤ n → n < part.to → from ≤ n → n < to → IsInOne sweeps n
