use Rattle.std.proofs.Common.{◌≡◌, take}
use Rattle.mem_devices.specs.MemDiskState.{start}
use Rattle.mem_devices.specs.MemDiskRecord.{replay}
use Rattle.mem_devices.proofs.mem_disk.torn_file.torn_ranges.Given as goal

abbrev pub invariant-loop-call : goal.invariant-loop-call
invariant-loop-call l = l.torn.items ≡ (replay (start l._first) (take l.call-index l.calls)).torn
