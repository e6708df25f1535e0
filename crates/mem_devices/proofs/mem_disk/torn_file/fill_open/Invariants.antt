use Rattle.std.proofs.Common.{◌≡◌}
use Rattle.mem_devices.specs.MemDiskState.{filled_by}
use Rattle.mem_devices.proofs.mem_disk.torn_file.fill_open.Given as goal

abbrev pub invariant-loop-i : goal.invariant-loop-i
invariant-loop-i l = l.image.items ≡ filled_by l.bytes l.least l.torn l.fill l.i
