-- The samples that the frames of a thread hold.
use Rattle.std.specs.Prelude.{◌≡◌, ℕ, ◌*◌, ◌/◌, ◌%◌, ◌^◌, ◌<◌, ℤ, pos, ◌+ℤ◌, ◌-ℤ◌, ◌≤ℤ◌, unsigned_abs, false, List, length, take, drop, Option, Some, None, slice_index_or, if◌then◌else◌}
use Rattle.vdif_frame.specs.Shape.{ShapeFields, head_bytes, chans_of, samples_per_frame}
use Rattle.sample_unpack.specs.Level.{level_at}
use Rattle.corr_model.specs.Cell.{Value}
use Rattle.corr_model.specs.Rotated.{value_at}
use Rattle.delay_track.specs.Track.{model_of}
use Rattle.station_stream.specs.declared.chan.StationChan.{StationChan}
use Rattle.station_stream.specs.declared.part.StationPart.{StationPart}
use Rattle.station_stream.specs.declared.thread_frames.ThreadFrames.{ThreadFrames}

-- the bytes of frame i
abbrev pub bytes_of_frame : ShapeFields → ThreadFrames → ℕ → List ℕ
bytes_of_frame shape f i = take shape.frame_bytes (drop (i * shape.frame_bytes) f.bytes.items)

-- the level of a channel, by its place in the complete samples, at sample k of frame i; none where no slot holds the frame
abbrev pub level_in_frame : ShapeFields → ThreadFrames → ℕ → ℕ → ℕ → Option ℤ
level_in_frame shape f index i k =
    if slice_index_or f.there.items i false
    then Some (level_at (drop (head_bytes shape.legacy) (bytes_of_frame shape f i)) shape.bits (chans_of shape) index k)
    else None

-- the level at sample p of the scan
abbrev pub level_in_frames : ShapeFields → ThreadFrames → ℕ → ℤ → Option ℤ
level_in_frames shape f index p =
    level_in_frame shape f index (unsigned_abs (p -ℤ f.start) / samples_per_frame shape) (unsigned_abs (p -ℤ f.start) % samples_per_frame shape)

-- the value of a channel at sample n of the scan
abbrev pub value_in_frames : StationPart → StationChan → ThreadFrames → ℕ → Value
value_in_frames p c f n = value_at (level_in_frames p.shape f c.index) (model_of p.track) (record { hertz = c.hertz; upper = c.upper }) n

-- they hold the samples from `first` up to, not including, `last`
pub record Reach (shape : ShapeFields) (first last : ℤ) (f : ThreadFrames) : Type 0 where
  pub begins : f.start ≤ℤ first
  pub near : unsigned_abs f.start < 2 ^ 62
  pub ends : last ≤ℤ (f.start +ℤ pos (length f.there.items * samples_per_frame shape))
  pub bytes : length f.bytes.items ≡ length f.there.items * shape.frame_bytes
