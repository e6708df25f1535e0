-- The order of slots.
use Rattle.std.specs.Prelude.{◌≡◌, false, List}
use Rattle.std.specs.List.{AllPairs}
use Rattle.std.specs.Ordering.{is_gt}
use Rattle.corr_model.specs.Slots.{Slot}
use Rattle.frame_index.specs.FrameOrder.{place_cmp}
use Rattle.frame_index.specs.Indexed.{place_of_slot}

-- slots that stand one after another: by their files, and in one file by their places
abbrev pub FollowOn : List Slot → Type 0
FollowOn slots = AllPairs (λ (a b : Slot). is_gt (place_cmp (place_of_slot a) (place_of_slot b)) ≡ false) slots
