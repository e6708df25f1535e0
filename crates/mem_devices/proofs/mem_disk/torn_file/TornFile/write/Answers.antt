use Rattle.std.proofs.Common.{rules, ◌≡◌, refl}
use Rattle.mem_devices.proofs.MemDiskFile.{write_follows, write_state, write_goes}
use Rattle.mem_devices.proofs.mem_disk.torn_file.TornFile.write.Goals as goal

pub invariant_of-self-2 : goal.invariant_of-self-2
invariant_of-self-2 c =
    let v = c.in_ok-copy.copy in
    let same : v.items ≡ c.args.bytes.now = search rules in
    let h = write_follows c.args.self.now c.args.at c.args.bytes.now v c.args.done _ _ _ same c.in_ok-push.ensures.items (search rules) c.max-self.ensures c.requires in
    record { reads = h.reads; lengths = h.lengths; short = h.bounded }

pub returns-clause-state : goal.returns-clause-state
returns-clause-state c =
    let v = c.in_ok-copy.copy in
    let same : v.items ≡ c.args.bytes.now = search rules in
    write_state c.args.self.now.first.items c.args.self.now.calls.items _ c.args.at c.args.bytes.now v c.args.done same c.in_ok-push.ensures.items

pub returns-clause-goes : goal.returns-clause-goes
returns-clause-goes c =
    let v = c.in_ok-copy.copy in
    let same : v.items ≡ c.args.bytes.now = search rules in
    write_goes c.args.self.now _ c.args.at c.args.bytes.now v c.args.done same refl c.in_ok-push.ensures.items
