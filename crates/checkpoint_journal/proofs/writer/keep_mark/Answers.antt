use Rattle.journal_image.specs.Image.{Turn, mark_text}
use Rattle.checkpoint_journal.proofs.KeepLemmas.{told_staged, part_stage, both_parts}
use Rattle.checkpoint_journal.proofs.writer.keep_mark.Goals as goal

pub returns-in_err-stage_mark-clause-changes : goal.returns-in_err-stage_mark-clause-changes
returns-in_err-stage_mark-clause-changes g c = λ id job r named is due.
    part_stage id job named is r (Turn mark_text) c.args.gate mark_text g.D.Disk.seen g.D.Disk.moment g.D.Disk.may_leave g.met.D.Disk.seen_is_image _ _ c.requires.durable due
    c.stage_mark.ensures.tells c.stage_mark.ensures.runs

pub returns-clause-changes : goal.returns-clause-changes
returns-clause-changes g c = λ id job r named is due.
    both_parts id job named is r (Turn mark_text) c.args.gate mark_text g.D.Disk.seen g.D.Disk.moment g.D.Disk.may_leave g.met.D.Disk.seen_is_image _ _ _ c.requires.durable due
    c.stage_mark.ensures.tells c.stage_mark.ensures.runs c.in_ok-stage_mark.ensures.written (λ staged. c.open_gate.ensures.changes id job r (Turn mark_text) mark_text named is staged)

pub returns-clause-added : goal.returns-clause-added
returns-clause-added g c = λ id job r named is due.
    let staged = told_staged id job named is r (Turn mark_text) c.args.gate mark_text _ _ due c.in_ok-stage_mark.ensures.written in
    c.open_gate.ensures.added id job r (Turn mark_text) mark_text named is staged
