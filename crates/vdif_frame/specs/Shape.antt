-- The shape that all frames of a station have.
use Rattle.std.specs.Prelude.{◌≡◌, ℕ, ◌+◌, ◌-◌, ◌*◌, ◌/◌, ◌%◌, ◌^◌, ◌≤◌, ◌<◌, Bool, true, ◌==◌, ◌||◌, if◌then◌else◌}

pub record ShapeFields : Type 0 where
  pub legacy : Bool
  -- the length of a frame with its header, in bytes
  pub frame_bytes : ℕ
  -- the number of channels is this power of two
  pub chans_log2 : ℕ
  -- bits in a sample
  pub bits : ℕ
  pub station : ℕ
  -- frames in a second
  pub frames : ℕ

-- bytes of the header
abbrev pub head_bytes : Bool → ℕ
head_bytes legacy = if legacy then 16 else 32

abbrev pub chans_of : ShapeFields → ℕ
chans_of s = 2 ^ s.chans_log2

-- complete samples in a frame: one sample of each channel makes a complete one
abbrev pub samples_per_frame : ShapeFields → ℕ
samples_per_frame s = 8 * (s.frame_bytes - head_bytes s.legacy) / (s.bits * chans_of s)

-- the shapes that there are
pub record IsShape (s : ShapeFields) : Type 0 where
  pub bits : ((s.bits == 1) || ((s.bits == 2) || (s.bits == 4))) ≡ true
  pub chans : s.chans_log2 ≤ 6
  pub units : s.frame_bytes % 8 ≡ 0
  pub least : head_bytes s.legacy + 8 ≤ s.frame_bytes
  pub most : s.frame_bytes ≤ 131072
  pub whole : 8 * (s.frame_bytes - head_bytes s.legacy) % (s.bits * chans_of s) ≡ 0
  pub frames : 0 < s.frames
