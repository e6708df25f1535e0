use Rattle.std.proofs.Common.{refl, rules, false, ◌+◌, length}
use Rattle.dev_traits.specs.Images.{Torn}
use Rattle.mem_devices.proofs.MemDiskFile.{disk_goes}
use Rattle.mem_devices.proofs.mem_disk.MemDiskDisk.write_at.Goals as goal

pub returns-in_default : goal.returns-in_default
returns-in_default c = search (disk_goes (Torn c.args.at (c.args.at + length c.args.bytes.now)) c.args.self.now c.fail.new.self c.write.new.self c.fail.ensures.file c.write.ensures.goes, rules)

pub returns-then-fails : goal.returns-then-fails
returns-then-fails c = search (disk_goes (Torn c.args.at (c.args.at + length c.args.bytes.now)) c.args.self.now c.fail-then-fails.new.self c.write.new.self c.fail-then-fails.ensures.file c.write.ensures.goes, rules)

pub returns : goal.returns
returns c = search (disk_goes (Torn c.args.at (c.args.at + length c.args.bytes.now)) c.args.self.now (record c.args.self.now { file = c.write.new.self; plan = c.next_fails-fails.new.self; refused = false }) c.write.new.self refl c.write.ensures.goes, rules)
