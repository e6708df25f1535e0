-- The latest frame of each thread.
use Rattle.std.specs.Prelude.{List, Option, Bool, false, option_and_then, slice_get}
use Rattle.std.specs.Option.{option_map_or}
use Rattle.frame_index.specs.declared.frame.Frame.{Frame}
use Rattle.frame_index.specs.FrameOrder.{is_earlier}

-- whether the latest frame of a frame's thread is later than the frame
abbrev pub is_passed : List (Option Frame) → Frame → Bool
is_passed last frame =
    option_map_or (λ (latest : Frame). is_earlier frame latest)
    (option_and_then (λ latest. latest) (slice_get last frame.thread)) false
