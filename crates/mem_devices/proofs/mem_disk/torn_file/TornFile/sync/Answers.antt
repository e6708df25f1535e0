use Rattle.std.proofs.Common.{rules, ◌≡◌, refl, length}
use Rattle.mem_devices.proofs.MemDiskFile.{sync_follows, sync_state, sync_goes}
use Rattle.mem_devices.proofs.mem_disk.torn_file.TornFile.sync.Goals as goal

pub invariant_of-self-2 : goal.invariant_of-self-2
invariant_of-self-2 c =
    let long : c.len-len.result ≡ length c.args.self.now.bytes.items = search rules in
    let h = sync_follows c.args.self.now c.args.done _ c.len-len.result _ _ c.in_ok-push.ensures.items long c.choose-self.ensures c.choose-self-2.ensures in
    record { reads = h.reads; lengths = h.lengths; short = h.bounded }

pub returns-clause-state : goal.returns-clause-state
returns-clause-state c = sync_state c.args.self.now.first.items c.args.self.now.calls.items _ c.args.done c.in_ok-push.ensures.items

pub returns-clause-goes : goal.returns-clause-goes
returns-clause-goes c = sync_goes c.args.self.now _ c.args.done refl c.in_ok-push.ensures.items
