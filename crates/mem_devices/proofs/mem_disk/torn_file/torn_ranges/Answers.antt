use Rattle.std.proofs.Common.{◌<◌, ◌+◌, take, ◌∙◌, ap, sym, subst, get_or}
use Rattle.mem_devices.specs.MemDiskState.{State, start}
use Rattle.mem_devices.specs.MemDiskRecord.{replay, torn_next, call_end}
use Rattle.mem_devices.specs.declared.mem_disk.torn_file.Call.{Call}
use Rattle.mem_devices.proofs.MemDiskReplay.{torn-after, most-after, replay_more}
use Rattle.mem_devices.proofs.mem_disk.torn_file.torn_ranges.Goals as goal

pub torn_after-requires : goal.torn_after-requires
torn_after-requires c =
    let s = start c.args._first.now in
    let i = c.loop-call.call-index in
    let call = c.call-item.result in
    let e = replay_more s c.args.calls.now i call c.loop-call-test.true in
    let here = subst (λ (r : State). r.most < 9223372036854775808) e (c.requires (i + 1)) in
    subst (λ (k : Call). call_end k < 9223372036854775808) (sym c.call-item.is) (most-after _ _ here)

pub loop-call-preserved : goal.loop-call-preserved
loop-call-preserved c =
    let s = start c.args._first.now in
    let i = c.loop-call.call-index in
    let call = c.call-item.result in
    c.in_ok-torn_after.ensures ∙ ap (λ l. torn_next l call) c.loop-call.invariant ∙ ap (λ k. torn_next (replay s (take i c.args.calls.now)).torn k) c.call-item.is
    ∙ sym (torn-after (replay s (take i c.args.calls.now)) (get_or c.args.calls.now i call)) ∙ sym (ap (λ (r : State). r.torn) (replay_more s c.args.calls.now i call c.loop-call-test.true))
