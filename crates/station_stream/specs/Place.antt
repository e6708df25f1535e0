-- The frame in which a sample of the scan lies.
use Rattle.std.specs.Prelude.{ℤ, pos, ◌-ℤ◌}
use Rattle.corr_model.specs.Sample.{Timing}
use Rattle.frame_index.specs.Placed.{second_of_place, number_of_place, sample_in_frame}
use Rattle.station_stream.specs.declared.place.FramePlace.{FramePlace}

-- its second, its number in that second, and its first sample
abbrev pub frame_place : Timing → ℤ → FramePlace
frame_place t p = record {
  second = second_of_place t p;
  number = number_of_place t p;
  start = p -ℤ pos (sample_in_frame t p);
}
