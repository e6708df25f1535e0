use Rattle.std.proofs.Common.{rules, ◌≡◌, refl, length}
use Rattle.mem_devices.proofs.MemDiskFile.{cut_follows, cut_state, cut_goes}
use Rattle.mem_devices.proofs.mem_disk.torn_file.TornFile.cut.Goals as goal

pub invariant_of-self-2 : goal.invariant_of-self-2
invariant_of-self-2 c =
    let long : c.len.result ≡ length c.args.self.now.bytes.items = search rules in
    let h = cut_follows c.args.self.now c.args.len c.len.result c.choose-kept.result c.args.done _ _ _ c.in_ok-push.ensures.items long c.choose-kept.ensures c.truncate.ensures.items c.min-self.ensures in
    record { reads = h.reads; lengths = h.lengths; short = h.bounded }

pub returns-clause-state : goal.returns-clause-state
returns-clause-state c = cut_state c.args.self.now.first.items c.args.self.now.calls.items _ c.args.len c.args.done c.in_ok-push.ensures.items

pub returns-clause-goes : goal.returns-clause-goes
returns-clause-goes c = cut_goes c.args.self.now _ c.args.len c.args.done refl c.in_ok-push.ensures.items
