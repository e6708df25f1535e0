-- What the files so far have.
use Rattle.std.proofs.Common.{◌≡◌, ◌≤◌, take}
use Rattle.frame_index.specs.Recording.{slots_by_size}
use Rattle.frame_index.proofs.recording.count_slots.Given as goal

abbrev pub invariant-loop-file : goal.invariant-loop-file
invariant-loop-file l = (l.total ≡ slots_by_size l.size (take l.file-index l.files)) × (l.total ≤ l.most)
