use Rattle.mem_devices.proofs.MemDiskComes.{filled_more}
use Rattle.mem_devices.proofs.mem_disk.torn_file.fill_open.Goals as goal

pub loop-i-preserved : goal.loop-i-preserved
loop-i-preserved c = filled_more c.args.bytes.now c.args.least c.args.torn.now c.args.fill c.loop-i.i c.byte_at.result c.loop-i.image.items c.push.new.self.items c.in_ok-push.ensures.items c.loop-i.invariant c.byte_at.ensures
