-- Where the samples of a frame lie.
use Rattle.std.specs.Prelude.{ℕ, ◌*◌, ℤ, pos, ◌+ℤ◌, ◌-ℤ◌, ◌*ℤ◌}
use Rattle.num_time.specs.Numbers.{epoch_second_of}
use Rattle.vdif_frame.specs.Header.{HeaderFields}
use Rattle.vdif_frame.specs.Shape.{ShapeFields, samples_per_frame}

-- the number of a frame's first sample, counted from the second `start` on at `rate` samples a second.
-- It is negative for a frame from before.
abbrev pub place_of : HeaderFields → ShapeFields → ℤ → ℕ → ℤ
place_of h s start rate =
    ((epoch_second_of h.epoch +ℤ pos h.seconds) -ℤ start) *ℤ pos rate
    +ℤ pos (h.frame * samples_per_frame s)
