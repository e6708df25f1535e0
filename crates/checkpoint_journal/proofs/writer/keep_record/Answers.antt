use Rattle.std.proofs.Common.{◌++◌}
use Rattle.checkpoint_journal.specs.Cells.{body_text}
use Rattle.journal_image.specs.Image.{Kept, range_text}
use Rattle.checkpoint_journal.proofs.KeepLemmas.{told_staged, part_stage, both_parts}
use Rattle.checkpoint_journal.proofs.writer.keep_record.Goals as goal

pub returns-in_err-stage_record-clause-changes : goal.returns-in_err-stage_record-clause-changes
returns-in_err-stage_record-clause-changes g c = λ id job r named is due.
    let e = c.args.e.now in
    let body = body_text c.args.sums.now.cells in
    part_stage id job named is r (Kept e body) c.args.gate (range_text e ++ body) g.D.Disk.seen g.D.Disk.moment g.D.Disk.may_leave g.met.D.Disk.seen_is_image _ _ c.requires.durable due
    c.stage_record.ensures.tells c.stage_record.ensures.runs

pub returns-clause-changes : goal.returns-clause-changes
returns-clause-changes g c = λ id job r named is due.
    let e = c.args.e.now in
    let body = body_text c.args.sums.now.cells in
    both_parts id job named is r (Kept e body) c.args.gate (range_text e ++ body) g.D.Disk.seen g.D.Disk.moment g.D.Disk.may_leave g.met.D.Disk.seen_is_image _ _ _ c.requires.durable due
    c.stage_record.ensures.tells c.stage_record.ensures.runs c.in_ok-stage_record.ensures.written (λ staged. c.open_gate.ensures.changes id job r (Kept e body) (range_text e ++ body) named is staged)

pub returns-clause-added : goal.returns-clause-added
returns-clause-added g c = λ id job r named is due.
    let e = c.args.e.now in
    let body = body_text c.args.sums.now.cells in
    let staged = told_staged id job named is r (Kept e body) c.args.gate (range_text e ++ body) _ _ due c.in_ok-stage_record.ensures.written in
    c.open_gate.ensures.added id job r (Kept e body) (range_text e ++ body) named is staged
