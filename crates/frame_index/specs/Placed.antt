-- The frame in which a sample of a scan lies, where each second has the same number of whole frames.
use Rattle.std.specs.Prelude.{ℕ, ◌/◌, ◌%◌, ℤ, pos, ◌+ℤ◌, unsigned_abs}
use Rattle.std.specs.Int.{int_rem_euclid}
use Rattle.num_time.specs.Numbers.{floor_of}
use Rattle.vdif_frame.specs.Shape.{samples_per_frame}
use Rattle.corr_model.specs.Sample.{Timing}

-- the second of place p
abbrev pub second_of_place : Timing → ℤ → ℤ
second_of_place t p = t.start +ℤ floor_of p (pos t.rate)

-- the samples from that second to place p
abbrev pub place_in_second : Timing → ℤ → ℕ
place_in_second t p = unsigned_abs (int_rem_euclid p (pos t.rate))

-- the number of the frame in that second
abbrev pub number_of_place : Timing → ℤ → ℕ
number_of_place t p = place_in_second t p / samples_per_frame t.shape

-- the sample in that frame
abbrev pub sample_in_frame : Timing → ℤ → ℕ
sample_in_frame t p = place_in_second t p % samples_per_frame t.shape
