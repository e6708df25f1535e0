use Rattle.std.proofs.Common.{refl, rules, false}
use Rattle.dev_traits.specs.Images.{Shorn}
use Rattle.mem_devices.proofs.MemDiskFile.{disk_goes}
use Rattle.mem_devices.proofs.mem_disk.MemDiskDisk.cut.Goals as goal

pub returns-in_default : goal.returns-in_default
returns-in_default c = search (disk_goes (Shorn c.args.len) c.args.self.now c.fail.new.self c.cut.new.self c.fail.ensures.file c.cut.ensures.goes, rules)

pub returns-then-fails : goal.returns-then-fails
returns-then-fails c = search (disk_goes (Shorn c.args.len) c.args.self.now c.fail-then-fails.new.self c.cut.new.self c.fail-then-fails.ensures.file c.cut.ensures.goes, rules)

pub returns : goal.returns
returns c = search (disk_goes (Shorn c.args.len) c.args.self.now (record c.args.self.now { file = c.cut.new.self; plan = c.next_fails-fails.new.self; refused = false }) c.cut.new.self refl c.cut.ensures.goes, rules)
