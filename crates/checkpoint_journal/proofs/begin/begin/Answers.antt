use Rattle.std.proofs.lemmas.Result.{on_ok_weaker}
use Rattle.checkpoint_journal.proofs.BeginLemmas.{told_new, told_begun, part_blank, two_parts, three_parts}
use Rattle.checkpoint_journal.proofs.begin.begin.Goals as goal

pub returns-in_err-close_head-clause-changes : goal.returns-in_err-close_head-clause-changes
returns-in_err-close_head-clause-changes g c = λ job is.
    part_blank g.D.Disk.seen g.D.Disk.moment g.D.Disk.may_leave g.met.D.Disk.seen_is_image c.args.id.now job c.requires.named is _ _ c.requires.durable c.requires.blank c.close_head.ensures.tells c.close_head.ensures.runs

pub returns-in_err-write_identity-clause-changes :
    goal.returns-in_err-write_identity-clause-changes
returns-in_err-write_identity-clause-changes g c = λ job is.
    two_parts g.D.Disk.seen g.D.Disk.moment g.D.Disk.may_leave g.met.D.Disk.seen_is_image c.args.id.now job c.requires.named is _ _ _ c.requires.durable c.requires.blank c.close_head.ensures.tells c.close_head.ensures.runs
    c.in_ok-close_head.ensures.durable c.in_ok-close_head.ensures.closed c.write_identity.ensures.tells c.write_identity.ensures.runs

pub returns-clause-begun : goal.returns-clause-begun
returns-clause-begun g c =
    let id = c.args.id.now in
    let made = told_new id _ _ c.in_ok-close_head.ensures.closed c.in_ok-write_identity.ensures.written in
    on_ok_weaker c.write_synced.result (λ written. told_begun id _ _ made written) c.write_synced.ensures.written

pub returns-clause-changes : goal.returns-clause-changes
returns-clause-changes g c = λ job is.
    let id = c.args.id.now in
    let law = g.met.D.Disk.seen_is_image in
    let two = two_parts g.D.Disk.seen g.D.Disk.moment g.D.Disk.may_leave law id job c.requires.named is _ _ _ c.requires.durable c.requires.blank c.close_head.ensures.tells c.close_head.ensures.runs
    c.in_ok-close_head.ensures.durable c.in_ok-close_head.ensures.closed c.write_identity.ensures.tells c.write_identity.ensures.runs in
    let made = told_new id _ _ c.in_ok-close_head.ensures.closed c.in_ok-write_identity.ensures.written in
    three_parts g.D.Disk.seen g.D.Disk.moment g.D.Disk.may_leave law id job c.requires.named is _ _ _ two c.in_ok-write_identity.ensures.durable made c.write_synced.ensures.tells c.write_synced.ensures.goes
