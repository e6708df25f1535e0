use Rattle.std.proofs.Common.{arith, length, ap}
use Rattle.mem_devices.specs.MemDiskImages.{between_now}
use Rattle.mem_devices.proofs.mem_disk.torn_file.TornFile.image.Goals as goal

pub fill_open-requires : goal.fill_open-requires
fill_open-requires c =
    let file = c.args.self.now in
    let b = between_now file.first.items file.calls.items in
    omega (arith, b.least, file.lengths.0, ap length file.reads, ap length c.deref-3.ensures.value)
