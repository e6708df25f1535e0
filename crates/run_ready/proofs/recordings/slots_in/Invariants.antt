use Rattle.std.proofs.Common.{◌≡◌, ◌≤◌, ◌*◌, take}
use Rattle.frame_index.specs.Recording.{slots_by_size}
use Rattle.run_ready.proofs.recordings.slots_in.Given as goal

abbrev pub invariant-loop-file : goal.invariant-loop-file
invariant-loop-file l = record {
  value : l.slots ≡ slots_by_size l.size (take l.file-index l.files);
  bound : l.slots ≤ 18446744073709551616 * l.file-index;
}
