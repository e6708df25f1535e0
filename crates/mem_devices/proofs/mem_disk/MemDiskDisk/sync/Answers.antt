use Rattle.std.proofs.Common.{refl, rules, false}
use Rattle.dev_traits.specs.Images.{Same}
use Rattle.mem_devices.proofs.MemDiskFile.{disk_goes, sync_durable}
use Rattle.mem_devices.proofs.mem_disk.MemDiskDisk.sync.Goals as goal

pub returns-in_default : goal.returns-in_default
returns-in_default c = search (disk_goes Same c.args.self.now c.fail.new.self c.sync.new.self c.fail.ensures.file c.sync.ensures.goes, rules)

pub returns-then-fails : goal.returns-then-fails
returns-then-fails c = search (disk_goes Same c.args.self.now c.fail-then-fails.new.self c.sync.new.self c.fail-then-fails.ensures.file c.sync.ensures.goes, rules)

pub returns : goal.returns
returns c = record {
  changes = search (disk_goes Same c.args.self.now (record c.args.self.now { file = c.sync.new.self; plan = c.next_fails-fails.new.self; refused = false }) c.sync.new.self refl c.sync.ensures.goes, rules);
  same = search rules;
  durable = sync_durable c.sync.new.self _ c.next_fails-fails.result c.if-fails.false c.in-Ok.ensures.state;
}
