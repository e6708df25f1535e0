-- The frames of a sweep, by thread.
use Rattle.std.specs.Prelude.{◌≡◌, ℕ, ◌<◌, ℤ, ◌≤ℤ◌, ◌<ℤ◌, Option, length, slice_index, slice_index_or}
use Rattle.dev_traits.specs.Told.{WhereTold}
use Rattle.frame_index.specs.Recording.{Shelved}
use Rattle.station_stream.specs.declared.chan.StationChan.{StationChan}
use Rattle.station_stream.specs.declared.part.StationPart.{StationPart}
use Rattle.station_stream.specs.declared.thread_frames.ThreadFrames.{ThreadFrames}
use Rattle.station_stream.specs.declared.threads.Threads.{Threads}
use Rattle.station_stream.specs.Ranges.{IsChanOf}
use Rattle.station_stream.specs.Part.{chan_sample}
use Rattle.station_stream.specs.ThreadFrames.{Reach, level_in_frames}

-- the samples of a thread's channels from `first` up to, not including, `last` are those of the frames
abbrev pub AreThreadSamples : Shelved → StationPart → ℤ → ℤ → ℕ → ThreadFrames → Type 0
AreThreadSamples told part first last thread f =
    (chan : StationChan) → IsChanOf part.shape chan → chan.thread ≡ thread → (p : ℤ) → first ≤ℤ p → p <ℤ last
    → chan_sample told part chan p ≡ level_in_frames part.shape f chan.index p

-- the frames of a thread hold the samples from `first` up to, not including, `last`
pub record AreFramesOf (told : Option Shelved) (part : StationPart) (first last : ℤ) (thread : ℕ) (f : ThreadFrames) : Type 0 where
  pub reach : Reach part.shape first last f
  pub samples : WhereTold told (λ told. AreThreadSamples told part first last thread f)

-- the frames at each place hold the samples of the sweep of the thread at that place
pub record AreThreads (told : Option Shelved) (part : StationPart) (t : Threads) : Type 0 where
  pub each : length t.numbers.items ≡ length t.frames.items
  pub frames : (i : ℕ) (d : ThreadFrames) → i < length t.frames.items
      → AreFramesOf told part t.sweep.first t.sweep.last (slice_index t.numbers.items i) (slice_index_or t.frames.items i d)
